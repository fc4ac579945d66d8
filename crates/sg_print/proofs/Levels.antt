-- The versions of a text, and its tokens as a text of its version has them.
use Rattle.std.proofs.Common.{ℕ, ◌≡◌, ◌⊎◌, inl, inr, ◌==◌, ◌&&◌, Bool, true, false, not, if◌then◌else◌, List, [], ◌∷◌, length, get_or, refl, ap, ◌∙◌}
use Rattle.std.specs.Char.{is_ascii_digit}
use Rattle.std.specs.List.{list_all}
use Rattle.sg_parse.specs.sg_lex.declared.token.TokenKind.{TokenKind}
use Rattle.sg_parse.specs.sg_lex.declared.token.TokenKind.TheVariants.{Word, Number, Text, Mark}
use Rattle.sg_parse.specs.sg_lex.Lexeme.{Lexeme}
use Rattle.sg_parse.specs.sg_lex.Table.{IsToken}
use Rattle.sg_parse.specs.sg_rules.declared.version.Newer.{Newer}
use Rattle.sg_parse.specs.sg_rules.declared.version.Newer.TheVariants.{Second, Third}
use Rattle.sg_parse.specs.sg_rules.Versions.{kept_words, is_kept, seen}
use Rattle.sg_parse.specs.sg_rules.Inside.Seen.{turned}
use Rattle.sg_parse.proofs.Grammar.Basics.{by_test, both_left, both_right, not_both, carried, apart}

-- the version of a text
pub data Version : Type 0 where
  v1 : Version
  v2 : Version
  v3 : Version

-- a token as a text of a version has it
abbrev pub seen_at : Version → Lexeme → Lexeme
seen_at v1 token = token
seen_at v2 token = seen Second token
seen_at v3 token = seen Third (seen Second token)

-- ---- words that versions keep for themselves

-- a text of the version doesn't keep the word for itself
abbrev pub IsOwn : Version → List ℕ → Type 0
IsOwn v1 w = Unit {0}
IsOwn v2 w = is_kept Second w ≡ false
IsOwn v3 w = (is_kept Second w ≡ false) × (is_kept Third w ≡ false)

-- one of the versions keeps the word for itself
abbrev pub IsKept : List ℕ → Type 0
IsKept w = (is_kept Second w ≡ true) ⊎ (is_kept Third w ≡ true)

-- a text of the version keeps the word for itself
abbrev pub Keeps : Version → List ℕ → Type 0
Keeps v1 w = ⊥
Keeps v2 w = is_kept Second w ≡ true
Keeps v3 w = ((is_kept Second w ≡ true) × (is_kept Third w ≡ false)) ⊎ ((is_kept Second w ≡ false) × (is_kept Third w ≡ true))

-- no word that the one version keeps is kept by the other
pub second_alone : (w : List ℕ) → is_kept Second w ≡ true → is_kept Third w ≡ false
second_alone w h = apart (kept_words Second) (kept_words Third) w refl h

pub third_alone : (w : List ℕ) → is_kept Third w ≡ true → is_kept Second w ≡ false
third_alone w h = apart (kept_words Third) (kept_words Second) w refl h

-- whether bytes can't be a token of another kind than a word
abbrev only_word : List ℕ → Bool
only_word w = not (is_ascii_digit (get_or w 0 0)) && (not (get_or w 0 0 == 0x22) && not (length w == 1))

kept_only : (version : Newer) (w : List ℕ) → is_kept version w ≡ true → only_word w ≡ true
kept_only Second w h = carried only_word (kept_words Second) w refl h
kept_only Third w h = carried only_word (kept_words Third) w refl h

not_true : (b : Bool) → not b ≡ true → b ≡ true → ⊥
not_true b h g = not_both (not b) h (ap not g)

only_kind : (kind : TokenKind) (w : List ℕ) → only_word w ≡ true → IsToken kind w → kind ≡ Word
only_kind Word w h t = refl
only_kind Number [] h t = absurd t
only_kind Number (b ∷ bs) h t = absurd (not_true (is_ascii_digit b) (both_left _ _ h) (both_left (is_ascii_digit b) (list_all is_ascii_digit bs) t))
only_kind Text w h t =
    absurd (not_true (get_or w 0 0 == 0x22) (both_left _ _ (both_right (not (is_ascii_digit (get_or w 0 0))) _ h)) (ap (λ xs. get_or xs 0 0 == 0x22) t.1))
only_kind Mark w h t =
    absurd (not_true (length w == 1) (both_right (not (get_or w 0 0 == 0x22)) _ (both_right (not (is_ascii_digit (get_or w 0 0))) _ h)) (ap (λ xs. length xs == 1) t.1))

-- a token's bytes are a kept word only where it is a word
pub kept_kind : (version : Newer) (kind : TokenKind) (w : List ℕ) → is_kept version w ≡ true → IsToken kind w → kind ≡ Word
kept_kind version kind w h t = only_kind kind w (kept_only version w h) t

-- one byte is no kept word
pub byte_own : (version : Newer) (m : ℕ) → is_kept version (m ∷ []) ≡ false
byte_own version m =
    by_test (is_kept version (m ∷ []))
    (λ h. absurd (not_true (length (m ∷ []) == 1) (both_right (not (m == 0x22)) _ (both_right (not (is_ascii_digit m)) _ (kept_only version (m ∷ []) h))) refl))
    (λ h. h)

-- ---- tokens

-- a token of a version, where the version doesn't keep its bytes
pub seen_own : (version : Newer) (token : Lexeme) → is_kept version token.bytes ≡ false → seen version token ≡ token
seen_own version token h = ap (λ b. record token { kind = if b then turned token.kind else token.kind }) h

-- and where it does
pub seen_kept : (version : Newer) (token : Lexeme) → is_kept version token.bytes ≡ true → seen version token ≡ record token { kind = turned token.kind }
seen_kept version token h = ap (λ b. record token { kind = if b then turned token.kind else token.kind }) h

pub own_seen : (v : Version) (token : Lexeme) → IsOwn v token.bytes → seen_at v token ≡ token
own_seen v1 token h = refl
own_seen v2 token h = seen_own Second token h
own_seen v3 token h = ap (seen Third) (seen_own Second token h.0) ∙ seen_own Third token h.1

pub keeps_seen : (v : Version) (token : Lexeme) → Keeps v token.bytes → seen_at v token ≡ record token { kind = turned token.kind }
keeps_seen v1 token h = absurd h
keeps_seen v2 token h = seen_kept Second token h
keeps_seen v3 token (inl h) = ap (seen Third) (seen_kept Second token h.0) ∙ seen_own Third (record token { kind = turned token.kind }) h.1
keeps_seen v3 token (inr h) = ap (seen Third) (seen_own Second token h.0) ∙ seen_kept Third token h.1

pub seen_bytes : (v : Version) (token : Lexeme) → (seen_at v token).bytes ≡ token.bytes
seen_bytes v1 token = refl
seen_bytes v2 token = refl
seen_bytes v3 token = refl

-- a number is one in a text of each version
still : (b : Bool) → (if b then turned Number else Number) ≡ Number
still true = refl
still false = refl

pub number_seen : (v : Version) (bytes : List ℕ) (at : ℕ) → (seen_at v (record { kind = Number; bytes = bytes; at = at })).kind ≡ Number
number_seen v1 bytes at = refl
number_seen v2 bytes at = still (is_kept Second bytes)
number_seen v3 bytes at = ap (λ k. if is_kept Third bytes then turned k else k) (still (is_kept Second bytes)) ∙ still (is_kept Third bytes)

-- a token is a number in a text of some version only where it is one
unturned : (b : Bool) (kind : TokenKind) → (if b then turned kind else kind) ≡ Number → kind ≡ Number
unturned false kind h = h
unturned true Number h = refl
unturned true Word h = absurd (let e : Mark ≡ Number = h in cc)
unturned true Mark h = absurd (let e : Word ≡ Number = h in cc)
unturned true Text h = absurd (let e : Text ≡ Number = h in cc)

pub seen_number : (v : Version) (token : Lexeme) → (seen_at v token).kind ≡ Number → token.kind ≡ Number
seen_number v1 token h = h
seen_number v2 token h = unturned (is_kept Second token.bytes) token.kind h
seen_number v3 token h = unturned (is_kept Second token.bytes) token.kind (unturned (is_kept Third token.bytes) (seen Second token).kind h)
