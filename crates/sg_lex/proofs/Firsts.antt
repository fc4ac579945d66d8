-- What the first byte of a text says of the token at its front.
use Rattle.std.proofs.Common.{ℕ, suc, ◌≤◌, ◌≡◌, Bool, true, false, List, [], ◌∷◌, ◌++◌, length, drop, get_or, refl, sym, ap, subst, arith}
use Rattle.std.specs.Char.{is_ascii_digit}
use Rattle.std.proofs.lemmas.Bool.{and_parts, both_ways}
use Rattle.sg_lex.specs.declared.token.TokenKind.{TokenKind}
use Rattle.sg_lex.specs.declared.token.TokenKind.TheVariants.{Word, Number, Text, Mark}
use Rattle.sg_lex.specs.Bytes.{begins_word}
use Rattle.sg_lex.specs.Table.{is_mark, IsToken, AtMost}
use Rattle.sg_lex.proofs.Classes.{word_not_digit, mark_not_word, mark_not_digit}

-- a kind's tokens begin with this byte
abbrev pub Starts : TokenKind → ℕ → Type 0
Starts Word b = begins_word b ≡ true
Starts Number b = is_ascii_digit b ≡ true
Starts Text b = b ≡ 0x22
Starts Mark b = is_mark b ≡ true

pub head_same : (b c : ℕ) (bs cs : List ℕ) → b ∷ bs ≡ c ∷ cs → b ≡ c
head_same b c bs cs e = ap (λ (xs : List ℕ). get_or xs 0 0) e

pub tail_same : (b c : ℕ) (bs cs : List ℕ) → b ∷ bs ≡ c ∷ cs → bs ≡ cs
tail_same b c bs cs e = ap (λ (xs : List ℕ). drop 1 xs) e

pub not_empty : (b : ℕ) (bs : List ℕ) → [] ≡ b ∷ bs → ⊥
not_empty b bs e = let long : 0 ≡ suc (length bs) = ap length e in omega arith

pub token_starts : (kind : TokenKind) (b : ℕ) (bs : List ℕ) → IsToken kind (b ∷ bs) → Starts kind b
token_starts Word b bs t = t.0
token_starts Number b bs t = (and_parts _ _ t).0
token_starts Text b bs (inner, e, a) = head_same b 0x22 bs (inner ++ 0x22 ∷ []) e
token_starts Mark b bs (c, e, a) = subst (λ x. is_mark x ≡ true) (sym (head_same b c bs [] e)) a

pub no_empty_token : (kind : TokenKind) → IsToken kind [] → ⊥
no_empty_token Word t = t
no_empty_token Number t = t
no_empty_token Text (inner, e, a) = not_empty 0x22 (inner ++ 0x22 ∷ []) e
no_empty_token Mark (c, e, a) = not_empty c [] e

quote_starts : (p : ℕ → Bool) (b : ℕ) → p 0x22 ≡ false → p b ≡ true → b ≡ 0x22 → ⊥
quote_starts p b f e q = both_ways (p 0x22) f (subst (λ x. p x ≡ true) q e)

-- no byte begins tokens of two kinds
pub one_kind : (kind other : TokenKind) (b : ℕ) → Starts kind b → Starts other b → kind ≡ other
one_kind Word Word b e f = refl
one_kind Word Number b e f = absurd (both_ways (is_ascii_digit b) (word_not_digit b e) f)
one_kind Word Text b e f = absurd (quote_starts begins_word b refl e f)
one_kind Word Mark b e f = absurd (both_ways (begins_word b) (mark_not_word b f) e)
one_kind Number Word b e f = absurd (both_ways (is_ascii_digit b) (word_not_digit b f) e)
one_kind Number Number b e f = refl
one_kind Number Text b e f = absurd (quote_starts is_ascii_digit b refl e f)
one_kind Number Mark b e f = absurd (both_ways (is_ascii_digit b) (mark_not_digit b f) e)
one_kind Text Word b e f = absurd (quote_starts begins_word b refl f e)
one_kind Text Number b e f = absurd (quote_starts is_ascii_digit b refl f e)
one_kind Text Text b e f = refl
one_kind Text Mark b e f = absurd (quote_starts is_mark b refl f e)
one_kind Mark Word b e f = absurd (both_ways (begins_word b) (mark_not_word b e) f)
one_kind Mark Number b e f = absurd (both_ways (is_ascii_digit b) (mark_not_digit b e) f)
one_kind Mark Text b e f = absurd (quote_starts is_mark b refl e f)
one_kind Mark Mark b e f = refl

-- the tokens at the front of a text are of the kind that its first byte begins
pub at_most : (own : TokenKind) (n b : ℕ) (bs : List ℕ) → Starts own b
    → ((cs behind : List ℕ) → bs ≡ cs ++ behind → IsToken own (b ∷ cs) → length (b ∷ cs) ≤ n) → AtMost n (b ∷ bs)
at_most own n b bs s h kind [] behind e t = omega arith
at_most own n b bs s h kind (c ∷ cs) behind e t =
    let t' : IsToken kind (b ∷ cs) = subst (λ x. IsToken kind (x ∷ cs)) (sym (head_same b c bs (cs ++ behind) e)) t in
    let k : kind ≡ own = one_kind kind own b (token_starts kind b cs t') s in
    h cs behind (tail_same b c bs (cs ++ behind) e) (subst (λ x. IsToken x (b ∷ cs)) k t')

begins_none : (b : ℕ) (bs : List ℕ) → begins_word b ≡ false → is_ascii_digit b ≡ false → is_mark b ≡ false
    → ((cs behind : List ℕ) → bs ≡ cs ++ behind → IsToken Text (b ∷ cs) → ⊥)
    → (kind : TokenKind) (cs behind : List ℕ) → bs ≡ cs ++ behind → IsToken kind (b ∷ cs) → ⊥
begins_none b bs w d m h Word cs behind e t = both_ways (begins_word b) w (token_starts Word b cs t)
begins_none b bs w d m h Number cs behind e t = both_ways (is_ascii_digit b) d (token_starts Number b cs t)
begins_none b bs w d m h Text cs behind e t = h cs behind e t
begins_none b bs w d m h Mark cs behind e t = both_ways (is_mark b) m (token_starts Mark b cs t)

-- no token stands at the front of a text whose first byte begins none
pub no_token : (b : ℕ) (bs : List ℕ) → begins_word b ≡ false → is_ascii_digit b ≡ false → is_mark b ≡ false
    → ((cs behind : List ℕ) → bs ≡ cs ++ behind → IsToken Text (b ∷ cs) → ⊥)
    → (kind : TokenKind) (bytes behind : List ℕ) → b ∷ bs ≡ bytes ++ behind → IsToken kind bytes → ⊥
no_token b bs w d m h kind [] behind e t = no_empty_token kind t
no_token b bs w d m h kind (c ∷ cs) behind e t =
    begins_none b bs w d m h kind cs behind (tail_same b c bs (cs ++ behind) e)
    (subst (λ x. IsToken kind (x ∷ cs)) (sym (head_same b c bs (cs ++ behind) e)) t)
