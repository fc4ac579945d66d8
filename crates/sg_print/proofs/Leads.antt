-- A text that a lexer reads as given pieces.
use Rattle.std.proofs.Common.{ℕ, ◌+◌, ◌≡◌, Bool, true, false, ◌||◌, List, [], ◌∷◌, ◌++◌, Ok, map, length, drop, refl, sym, ap, subst, ◌∙◌}
use Rattle.std.specs.Char.{is_ascii_digit}
use Rattle.std.proofs.lemmas.List.{drop_at, take_at}
use Rattle.sg_parse.specs.sg_lex.declared.token.TokenKind.{TokenKind}
use Rattle.sg_parse.specs.sg_lex.declared.token.TokenKind.TheVariants.{Word, Number, Mark}
use Rattle.sg_parse.specs.sg_lex.declared.front.Front.TheVariants.{Token}
use Rattle.sg_parse.specs.sg_lex.Lexeme.{Lexeme, Spelling as Named}
use Rattle.sg_parse.specs.sg_lex.Bytes.{begins_word, is_in_word}
use Rattle.sg_parse.specs.sg_lex.Table.{is_blank, is_mark, IsWord}
use Rattle.sg_parse.specs.sg_lex.Fronts.{front_of}
use Rattle.sg_parse.specs.sg_lex.Tokens.{later_answers}
use Rattle.sg_parse.proofs.sg_lex.Steps.{answers_after, answers_step}
use Rattle.sg_parse.proofs.sg_lex.Forward.{front_word, front_number, front_mark, front_blank}
use Rattle.sg_parse.proofs.sg_lex.Runs.{all_exact, all_whole}
use Rattle.sg_parse.specs.declared.words.Sort.{Sort}
use Rattle.sg_parse.specs.Grammar.Words.{is_of}
use Rattle.sg_parse.specs.sg_lex.Table.{IsNumber}
use Rattle.sg_parse.specs.sg_rules.declared.version.Newer.{Newer}
use Rattle.sg_parse.specs.sg_rules.declared.version.Newer.TheVariants.{Second, Third}
use Rattle.sg_parse.specs.sg_rules.declared.words.Fixed.{Fixed}
use Rattle.sg_parse.specs.sg_rules.declared.words.Fixed.TheVariants.{Key, Comma, Semicolon, Dollar}
use Rattle.sg_parse.specs.sg_rules.declared.words.Keyword.{Keyword}
use Rattle.sg_parse.specs.sg_rules.declared.words.Keyword.TheVariants.{Refuse}
use Rattle.sg_parse.specs.sg_rules.Versions.{is_kept, seen}
use Rattle.sg_parse.specs.sg_rules.Grammar.Words.{word_of, is_name}
use Rattle.sg_parse.specs.sg_rules.Grammar.Pieces.{RulePiece, fixed, word_at, name as name_in_rule, number as number_in_rule, IsRulePiece}
use Rattle.sg_parse.specs.Grammar.Pieces.{Piece, word, mark, name, number, version_number, kept, newer, rule, are_of}
use Rattle.sg_parse.proofs.Grammar.Basics.{both_left, both_right}
use Rattle.sg_print.proofs.Levels.{Version, v1, v2, v3, seen_at, IsOwn, IsKept, Keeps, own_seen, keeps_seen, byte_own, number_seen, seen_bytes}

-- a token is such a piece of a rule, but for its place
abbrev pub IsRuleLike : Lexeme → RulePiece → Type 0
IsRuleLike token (fixed p) = IsRulePiece token (fixed p)
IsRuleLike token (word_at keyword at) = (token.kind ≡ Word) × (token.bytes ≡ word_of keyword)
IsRuleLike token (name_in_rule n) = (token.kind ≡ Word) × (token.bytes ≡ n.bytes) × (is_name n.bytes ≡ true)
IsRuleLike token (number_in_rule n) = (token.kind ≡ Number) × (token.bytes ≡ n.bytes)

-- a token is such a piece, but for its place
abbrev pub IsLike : Lexeme → Piece → Type 0
IsLike token (word bytes) = (token.kind ≡ Word) × (token.bytes ≡ bytes)
IsLike token (mark bytes) = (token.kind ≡ Mark) × (token.bytes ≡ bytes)
IsLike token (name sort n) = (token.kind ≡ Word) × (token.bytes ≡ n.bytes) × (is_of sort n.bytes ≡ true)
IsLike token (number n) = (token.kind ≡ Number) × (token.bytes ≡ n.bytes)
IsLike token (version_number version) = (token.kind ≡ Number) × (are_of version token.bytes ≡ true)
IsLike token (kept bytes) = (token.kind ≡ Mark) × (token.bytes ≡ bytes)
IsLike token (newer version p) = IsLike (seen version token) p
IsLike token (rule p) = IsRuleLike token p

abbrev pub AreLike : List Lexeme → List Piece → Type 0
AreLike [] [] = Unit {0}
AreLike (token ∷ tokens) (piece ∷ pieces) = IsLike token piece × AreLike tokens pieces
AreLike [] (piece ∷ pieces) = ⊥
AreLike (token ∷ tokens) [] = ⊥

-- from each place, the answers on a text are tokens, which are like the pieces as a text of its version has them
pub record Leads (b : Version) (text : List ℕ) (pieces : List Piece) : Type 0 where
  pub tokens : ℕ → List Lexeme
  pub like : (at : ℕ) → AreLike (map (seen_at b) (tokens at)) pieces
  pub answers : (at : ℕ) → later_answers 0 at text ≡ map Ok (tokens at)

-- no word goes on with the first byte of a text
abbrev pub Stops : List ℕ → Type 0
Stops [] = Unit {0}
Stops (b ∷ bs) = is_in_word b ≡ false

pub end_leads : {b : Version} → Leads b [] []
end_leads = record { tokens = λ at. []; like = λ at. tt; answers = λ at. refl }

pub blank_leads : {b : Version} (c : ℕ) (rest : List ℕ) (pieces : List Piece) → is_blank c ≡ true → Leads b rest pieces → Leads b (c ∷ rest) pieces
blank_leads c rest pieces e k = record {
  tokens = λ at. k.tokens (at + 1);
  like = λ at. k.like (at + 1);
  answers = λ at. answers_step at (c ∷ rest) ∙ (ap (λ f. answers_after f at (c ∷ rest)) (front_blank c rest e) ∙ k.answers (at + 1));
}

-- a token at the front of a text
token_leads : {b : Version} (kind : TokenKind) (w rest : List ℕ) (piece : Piece) (pieces : List Piece) → front_of (w ++ rest) ≡ Token kind (length w)
    → ((at : ℕ) → IsLike (seen_at b (record { kind = kind; bytes = w; at = at })) piece) → Leads b rest pieces → Leads b (w ++ rest) (piece ∷ pieces)
token_leads kind w rest piece pieces front l k = record {
  tokens = λ at. record { kind = kind; bytes = w; at = at } ∷ k.tokens (at + length w);
  like = λ at. (l at, k.like (at + length w));
  answers = λ at.
      answers_step at (w ++ rest) ∙ (ap (λ f. answers_after f at (w ++ rest)) front
      ∙ (ap (λ xs. Ok (record { kind = kind; bytes = xs; at = at }) ∷ later_answers 0 (at + length w) (drop (length w) (w ++ rest)))
      (take_at w rest (length w) refl)
      ∙ (ap (λ xs. Ok (record { kind = kind; bytes = w; at = at }) ∷ later_answers 0 (at + length w) xs) (drop_at w rest (length w) refl)
      ∙ ap (λ xs. Ok (record { kind = kind; bytes = w; at = at }) ∷ xs) (k.answers (at + length w)))));
}

-- one byte is no word that a version keeps for itself
byte_is_own : (b : Version) (m : ℕ) → IsOwn b (m ∷ [])
byte_is_own v1 m = tt
byte_is_own v2 m = byte_own Second m
byte_is_own v3 m = (byte_own Second m, byte_own Third m)

-- a mark is the same in texts of all versions
mark_like : (b : Version) (m at : ℕ) → IsLike (seen_at b (record { kind = Mark; bytes = m ∷ []; at = at })) (mark (m ∷ []))
mark_like b m at = subst (λ t. IsLike t (mark (m ∷ []))) (sym (own_seen b (record { kind = Mark; bytes = m ∷ []; at = at }) (byte_is_own b m))) (refl, refl)

pub mark_leads : {b : Version} (m : ℕ) (rest : List ℕ) (pieces : List Piece) → is_mark m ≡ true → Leads b rest pieces → Leads b (m ∷ rest) (mark (m ∷ []) ∷ pieces)
mark_leads {b = b} m rest pieces e k = token_leads Mark (m ∷ []) rest (mark (m ∷ [])) pieces (front_mark m rest e) (mark_like b m) k

-- the front of a text that begins with a word which goes no further
word_first : (w rest : List ℕ) → IsWord w → Stops rest → front_of (w ++ rest) ≡ Token Word (length w)
word_first [] rest t s = absurd t
word_first (b ∷ bs) [] t s = front_word b bs [] t.0 (all_whole is_in_word bs t.1)
word_first (b ∷ bs) (c ∷ rest) t s = front_word b bs (c ∷ rest) t.0 (all_exact is_in_word bs c rest t.1 s)

-- ---- pieces that a text can have

-- a name of a rule is a word that may be one and isn't kept, and a number has digits
abbrev pub IsProperRule : Version → RulePiece → Type 0
IsProperRule b (fixed p) = Unit {0}
IsProperRule b (word_at keyword at) = Unit {0}
IsProperRule b (name_in_rule n) = IsWord n.bytes × (is_name n.bytes ≡ true) × IsOwn b n.bytes
IsProperRule b (number_in_rule n) = IsNumber n.bytes

-- a name's bytes are a word of its sort that isn't kept, and a number's are digits; a kept word is only there where a version keeps it; fixed
-- words, marks and the numbers of versions are proper as they are
abbrev pub IsProper : Version → Piece → Type 0
IsProper b (word bytes) = Unit {0}
IsProper b (mark byte) = Unit {0}
IsProper b (name sort n) = IsWord n.bytes × (is_of sort n.bytes ≡ true) × IsOwn b n.bytes
IsProper b (number n) = IsNumber n.bytes
IsProper b (version_number version) = Unit {0}
IsProper b (kept bytes) = IsKept bytes → Keeps b bytes
IsProper v1 (newer Second p) = IsProper v2 p
IsProper v2 (newer Third p) = IsProper v3 p
IsProper b (newer version p) = Unit {0}
IsProper b (rule p) = IsProperRule b p

abbrev pub AreProper : Version → List Piece → Type 0
AreProper b [] = Unit {0}
AreProper b (piece ∷ pieces) = IsProper b piece × AreProper b pieces

pub proper_left : (b : Version) (ps qs : List Piece) → AreProper b (ps ++ qs) → AreProper b ps
proper_left b [] qs h = tt
proper_left b (p ∷ ps) qs h = (h.0, proper_left b ps qs h.1)

pub proper_right : (b : Version) (ps qs : List Piece) → AreProper b (ps ++ qs) → AreProper b qs
proper_right b [] qs h = h
proper_right b (p ∷ ps) qs h = proper_right b ps qs h.1

pub proper_second : (ps : List Piece) → AreProper v1 (map (newer Second) ps) → AreProper v2 ps
proper_second [] h = tt
proper_second (p ∷ ps) h = (h.0, proper_second ps h.1)

pub proper_third : (ps : List Piece) → AreProper v2 (map (newer Third) ps) → AreProper v3 ps
proper_third [] h = tt
proper_third (p ∷ ps) h = (h.0, proper_third ps h.1)

-- a fixed word, and no version keeps it for itself
abbrev pub IsFixed : List ℕ → Type 0
IsFixed w = IsWord w × (is_kept Second w ≡ false) × (is_kept Third w ≡ false)

own : (b : Version) (w : List ℕ) → IsFixed w → IsOwn b w
own v1 w h = tt
own v2 w h = h.1
own v3 w h = (h.1, h.2)

-- a word that isn't kept is the same in texts of all versions
word_like : (b : Version) (w : List ℕ) (at : ℕ) (P : Lexeme → Type 0) → IsOwn b w → P (record { kind = Word; bytes = w; at = at })
    → P (seen_at b (record { kind = Word; bytes = w; at = at }))
word_like b w at P h p = subst P (sym (own_seen b (record { kind = Word; bytes = w; at = at }) h)) p

pub fixed_leads : {b : Version} (w rest : List ℕ) (pieces : List Piece) → IsFixed w → Stops rest → Leads b rest pieces → Leads b (w ++ rest) (word w ∷ pieces)
fixed_leads {b = b} w rest pieces t s k =
    token_leads Word w rest (word w) pieces (word_first w rest t.0 s) (λ at. word_like b w at (λ t. IsLike t (word w)) (own b w t) (refl, refl)) k

pub name_leads : {b : Version} (sort : Sort) (n : Named) (rest : List ℕ) (pieces : List Piece) → IsProper b (name sort n) → Stops rest → Leads b rest pieces
    → Leads b (n.bytes ++ rest) (name sort n ∷ pieces)
name_leads {b = b} sort n rest pieces h s k =
    token_leads Word n.bytes rest (name sort n) pieces (word_first n.bytes rest h.0 s) (λ at. word_like b n.bytes at (λ t. IsLike t (name sort n)) h.2 (refl, refl, h.1)) k

pub kept_leads : {b : Version} (w rest : List ℕ) (pieces : List Piece) → IsWord w → Keeps b w → Stops rest → Leads b rest pieces → Leads b (w ++ rest) (kept w ∷ pieces)
kept_leads {b = b} w rest pieces t e s k =
    token_leads Word w rest (kept w) pieces (word_first w rest t s)
    (λ at. subst (λ v. IsLike v (kept w)) (sym (keeps_seen b (record { kind = Word; bytes = w; at = at }) e)) (refl, refl)) k

-- no number goes on with the first byte of a text that no word goes on with
digits_stop : (b : ℕ) → is_in_word b ≡ false → is_ascii_digit b ≡ false
digits_stop b h = by (begins_word b) h
  where
    by : (x : Bool) → (x || is_ascii_digit b) ≡ false → is_ascii_digit b ≡ false
    by false h = h
    by true h = absurd (let e : true ≡ false = h in cc)

-- the front of a text that begins with a number which goes no further
number_first : (w rest : List ℕ) → IsNumber w → Stops rest → front_of (w ++ rest) ≡ Token Number (length w)
number_first [] rest t s = absurd t
number_first (b ∷ bs) [] t s = front_number b bs [] (both_left (is_ascii_digit b) _ t) (all_whole is_ascii_digit bs (both_right (is_ascii_digit b) _ t))
number_first (b ∷ bs) (c ∷ rest) t s =
    front_number b bs (c ∷ rest) (both_left (is_ascii_digit b) _ t) (all_exact is_ascii_digit bs c rest (both_right (is_ascii_digit b) _ t) (digits_stop c s))

pub number_leads : {b : Version} (n : Named) (rest : List ℕ) (pieces : List Piece) → IsNumber n.bytes → Stops rest → Leads b rest pieces
    → Leads b (n.bytes ++ rest) (number n ∷ pieces)
number_leads {b = b} n rest pieces h s k =
    token_leads Number n.bytes rest (number n) pieces (number_first n.bytes rest h s) (λ at. (number_seen b n.bytes at, seen_bytes b (record { kind = Number; bytes = n.bytes; at = at }))) k

-- the digits of the number of a version
abbrev pub digits_of : Newer → List ℕ
digits_of Second = 0x32 ∷ []
digits_of Third = 0x33 ∷ []

-- the number of a version, in a text that has no version yet
pub version_leads : (version : Newer) (rest : List ℕ) (pieces : List Piece) → Stops rest → Leads v1 rest pieces → Leads v1 (digits_of version ++ rest) (version_number version ∷ pieces)
version_leads Second rest pieces s k = token_leads Number (0x32 ∷ []) rest (version_number Second) pieces (number_first (0x32 ∷ []) rest refl s) (λ at. (refl, refl)) k
version_leads Third rest pieces s k = token_leads Number (0x33 ∷ []) rest (version_number Third) pieces (number_first (0x33 ∷ []) rest refl s) (λ at. (refl, refl)) k

-- ---- rules

-- a word of rules is a word, and no version keeps it for itself
keyword_fixed : (keyword : Keyword) → IsFixed (word_of keyword)
keyword_fixed Refuse = ((refl, refl), refl, refl)
keyword_fixed _ = ((refl, refl), refl, refl)

pub keyword_leads : {b : Version} (keyword : Keyword) (rest : List ℕ) (pieces : List Piece) → Stops rest → Leads b rest pieces
    → Leads b (word_of keyword ++ rest) (rule (fixed (Key keyword)) ∷ pieces)
keyword_leads {b = b} keyword rest pieces s k =
    let t = keyword_fixed keyword in
    token_leads Word (word_of keyword) rest (rule (fixed (Key keyword))) pieces (word_first (word_of keyword) rest t.0 s)
    (λ at. word_like b (word_of keyword) at (λ t. IsLike t (rule (fixed (Key keyword)))) (own b (word_of keyword) t) (refl, refl)) k

pub keyword_at_leads : {b : Version} (keyword : Keyword) (place : ℕ) (rest : List ℕ) (pieces : List Piece) → Stops rest → Leads b rest pieces
    → Leads b (word_of keyword ++ rest) (rule (word_at keyword place) ∷ pieces)
keyword_at_leads {b = b} keyword place rest pieces s k =
    let t = keyword_fixed keyword in
    token_leads Word (word_of keyword) rest (rule (word_at keyword place)) pieces (word_first (word_of keyword) rest t.0 s)
    (λ at. word_like b (word_of keyword) at (λ t. IsLike t (rule (word_at keyword place))) (own b (word_of keyword) t) (refl, refl)) k

-- the byte of a mark that rules have
abbrev pub mark_byte : Fixed → ℕ
mark_byte (Key keyword) = 0
mark_byte Comma = 0x2C
mark_byte Semicolon = 0x3B
mark_byte Dollar = 0x24

-- a mark of rules
abbrev pub IsSign : Fixed → Type 0
IsSign (Key keyword) = ⊥
IsSign Comma = Unit {0}
IsSign Semicolon = Unit {0}
IsSign Dollar = Unit {0}

pub sign_leads : {b : Version} (p : Fixed) (rest : List ℕ) (pieces : List Piece) → IsSign p → Leads b rest pieces → Leads b (mark_byte p ∷ rest) (rule (fixed p) ∷ pieces)
sign_leads (Key keyword) rest pieces t k = absurd t
sign_leads {b = b} Comma rest pieces t k = token_leads Mark (0x2C ∷ []) rest (rule (fixed Comma)) pieces (front_mark 0x2C rest refl) (mark_like b 0x2C) k
sign_leads {b = b} Semicolon rest pieces t k = token_leads Mark (0x3B ∷ []) rest (rule (fixed Semicolon)) pieces (front_mark 0x3B rest refl) (mark_like b 0x3B) k
sign_leads {b = b} Dollar rest pieces t k = token_leads Mark (0x24 ∷ []) rest (rule (fixed Dollar)) pieces (front_mark 0x24 rest refl) (mark_like b 0x24) k

pub rule_name_leads : {b : Version} (n : Named) (rest : List ℕ) (pieces : List Piece) → IsProperRule b (name_in_rule n) → Stops rest → Leads b rest pieces
    → Leads b (n.bytes ++ rest) (rule (name_in_rule n) ∷ pieces)
rule_name_leads {b = b} n rest pieces h s k =
    token_leads Word n.bytes rest (rule (name_in_rule n)) pieces (word_first n.bytes rest h.0 s)
    (λ at. word_like b n.bytes at (λ t. IsLike t (rule (name_in_rule n))) h.2 (refl, refl, h.1)) k

pub rule_number_leads : {b : Version} (n : Named) (rest : List ℕ) (pieces : List Piece) → IsNumber n.bytes → Stops rest → Leads b rest pieces
    → Leads b (n.bytes ++ rest) (rule (number_in_rule n) ∷ pieces)
rule_number_leads {b = b} n rest pieces h s k =
    token_leads Number n.bytes rest (rule (number_in_rule n)) pieces (number_first n.bytes rest h s)
    (λ at. (number_seen b n.bytes at, seen_bytes b (record { kind = Number; bytes = n.bytes; at = at }))) k

-- ---- texts of versions after the first

second_like : (tokens : List Lexeme) (pieces : List Piece) → AreLike (map (seen_at v2) tokens) pieces → AreLike (map (seen_at v1) tokens) (map (newer Second) pieces)
second_like [] [] l = tt
second_like [] (p ∷ ps) l = absurd l
second_like (t ∷ ts) [] l = absurd l
second_like (t ∷ ts) (p ∷ ps) l = (l.0, second_like ts ps l.1)

third_like : (tokens : List Lexeme) (pieces : List Piece) → AreLike (map (seen_at v3) tokens) pieces → AreLike (map (seen_at v2) tokens) (map (newer Third) pieces)
third_like [] [] l = tt
third_like [] (p ∷ ps) l = absurd l
third_like (t ∷ ts) [] l = absurd l
third_like (t ∷ ts) (p ∷ ps) l = (l.0, third_like ts ps l.1)

-- what a text of version 2 has, as pieces of any text
pub second_leads : (rest : List ℕ) (pieces : List Piece) → Leads v2 rest pieces → Leads v1 rest (map (newer Second) pieces)
second_leads rest pieces k = record { tokens = k.tokens; like = λ at. second_like (k.tokens at) pieces (k.like at); answers = k.answers }

-- what a text of version 3 has, as pieces of one of version 2
pub third_leads : (rest : List ℕ) (pieces : List Piece) → Leads v3 rest pieces → Leads v2 rest (map (newer Third) pieces)
third_leads rest pieces k = record { tokens = k.tokens; like = λ at. third_like (k.tokens at) pieces (k.like at); answers = k.answers }
