-- Tests of tokens and what they say.
use Rattle.std.proofs.Common.{◌≡◌, ℕ, ◌&&◌, Bool, true, false, not, if◌then◌else◌, List, [], ◌∷◌, refl, sym, ap, ◌∙◌, nat_eq}
use Rattle.std.specs.Prelude.{None, Some}
use Rattle.std.specs.declared.option.Option.{Option}
use Rattle.std.specs.Cmp.Lexicographic.{pointwise, bytes_decides}
use Rattle.sg_lex.specs.declared.token.TokenKind.TheVariants.{Word, Number as number_kind, Mark}
use Rattle.sg_lex.specs.Lexeme.{Lexeme, Spelling}
use Rattle.sg_lex.specs.Inside.Marks.{comma_byte, semicolon_byte, dollar_byte, close_brace_byte}
use Rattle.sg_lex.specs.Inside.Tests.{same_kind, has_kind, is_this_mark}
use Rattle.sg_lex.proofs.SameKinds.{kind_is}
use Rattle.sg_rules.specs.declared.words.Keyword.{Keyword}
use Rattle.sg_rules.specs.declared.words.Keyword.TheVariants.{Refuse}
use Rattle.sg_rules.specs.declared.words.Fixed.{Fixed}
use Rattle.sg_rules.specs.declared.words.Fixed.TheVariants.{Key, Comma, Semicolon, Dollar}
use Rattle.sg_rules.specs.declared.words.Wanted.{Wanted}
use Rattle.sg_rules.specs.declared.words.Wanted.TheVariants.{Name as a_name, Number as a_number, Key as a_word}
use Rattle.sg_rules.specs.Grammar.Words.{word_of, is_name}
use Rattle.sg_rules.specs.Grammar.Pieces.{RulePiece, fixed, word_at, name, number, IsRulePiece}
use Rattle.sg_rules.specs.Grammar.Inside.States.{fits, wants, spelt_by}

-- ---- tests

pub by_test : {X : Type 0} (b : Bool) → (b ≡ true → X) → (b ≡ false → X) → X
by_test true hit miss = hit refl
by_test false hit miss = miss refl

pub some_is : {X : Type 0} (x y : X) → Some x ≡ Some y → x ≡ y
some_is x y e = cc

-- nothing is not something
pub none_some : {X : Type 0} (Y : Type 0) (x : X) → None ≡ Some x → Y
none_some Y x e = absurd (let f = e in cc)

pub if_then : {X : Type 0} (b : Bool) (x y : X) → b ≡ true → (if b then x else y) ≡ x
if_then true x y h = refl
if_then false x y h = absurd (let e : false ≡ true = h in cc)

pub if_else : {X : Type 0} (b : Bool) (x y : X) → b ≡ false → (if b then x else y) ≡ y
if_else false x y h = refl
if_else true x y h = absurd (let e : true ≡ false = h in cc)

-- a choice whose outcome is known
pub chosen : {X : Type 0} (Y : Type 0) (b : Bool) (x : X) (o : Option X) (next : X) → (if b then Some x else o) ≡ Some next
    → (b ≡ true → x ≡ next → Y) → (b ≡ false → o ≡ Some next → Y) → Y
chosen Y true x o next e hit miss = hit refl (some_is x next e)
chosen Y false x o next e hit miss = miss refl e

both_left : (a b : Bool) → (a && b) ≡ true → a ≡ true
both_left true b h = refl
both_left false b h = h

both_right : (a b : Bool) → (a && b) ≡ true → b ≡ true
both_right true b h = h
both_right false b h = absurd (let e : false ≡ true = h in cc)

both : (a b : Bool) → a ≡ true → b ≡ true → (a && b) ≡ true
both true b h g = g
both false b h g = h

not_both : (b : Bool) → b ≡ true → b ≡ false → ⊥
not_both b h g = let e : true ≡ false = sym h ∙ g in cc

pub true_not : (b : Bool) → not b ≡ true → b ≡ false
true_not false h = refl
true_not true h = absurd (let e : false ≡ true = h in cc)

same_bytes : (a b : List ℕ) → pointwise nat_eq a b ≡ true → a ≡ b
same_bytes a b h = (bytes_decides a b).0 h

bytes_same : (a b : List ℕ) → a ≡ b → pointwise nat_eq a b ≡ true
bytes_same a b e = (bytes_decides a b).1 e

-- no word of rules is a name
no_name : (keyword : Keyword) → is_name (word_of keyword) ≡ false
no_name Refuse = refl
no_name _ = refl

-- nor is a name such a word
name_apart : (keyword : Keyword) (bytes : List ℕ) → is_name bytes ≡ true → pointwise nat_eq bytes (word_of keyword) ≡ false
name_apart keyword bytes h =
    by_test (pointwise nat_eq bytes (word_of keyword))
    (λ e. absurd (not_both (is_name bytes) h (ap is_name (same_bytes bytes (word_of keyword) e) ∙ no_name keyword)))
    (λ e. e)

-- ---- words and marks

-- a token that is this word or mark, at the front of a text
abbrev pub token_of : Fixed → Lexeme
token_of (Key keyword) = record { kind = Word; bytes = word_of keyword; at = 0 }
token_of Comma = record { kind = Mark; bytes = comma_byte ∷ []; at = 0 }
token_of Semicolon = record { kind = Mark; bytes = semicolon_byte ∷ []; at = 0 }
token_of Dollar = record { kind = Mark; bytes = dollar_byte ∷ []; at = 0 }

-- tokens of one kind and with the same bytes are the same words and marks
fits_same : (p : Fixed) (one other : Lexeme) → one.kind ≡ other.kind → one.bytes ≡ other.bytes → fits p one ≡ fits p other
fits_same (Key keyword) one other k b =
    ap (λ v. same_kind v Word && pointwise nat_eq one.bytes (word_of keyword)) k ∙ ap (λ v. same_kind other.kind Word && pointwise nat_eq v (word_of keyword)) b
fits_same Comma one other k b =
    ap (λ v. same_kind v Mark && pointwise nat_eq one.bytes (comma_byte ∷ [])) k ∙ ap (λ v. same_kind other.kind Mark && pointwise nat_eq v (comma_byte ∷ [])) b
fits_same Semicolon one other k b =
    ap (λ v. same_kind v Mark && pointwise nat_eq one.bytes (semicolon_byte ∷ [])) k ∙ ap (λ v. same_kind other.kind Mark && pointwise nat_eq v (semicolon_byte ∷ [])) b
fits_same Dollar one other k b =
    ap (λ v. same_kind v Mark && pointwise nat_eq one.bytes (dollar_byte ∷ [])) k ∙ ap (λ v. same_kind other.kind Mark && pointwise nat_eq v (dollar_byte ∷ [])) b

-- the word or mark is itself
pub fits_own : (p : Fixed) → fits p (token_of p) ≡ true
fits_own (Key keyword) = bytes_same (word_of keyword) (word_of keyword) refl
fits_own Comma = refl
fits_own Semicolon = refl
fits_own Dollar = refl

pub fits-is : (p : Fixed) (token : Lexeme) → fits p token ≡ true → IsRulePiece token (fixed p)
fits-is (Key keyword) token h = (kind_is token.kind Word (both_left _ _ h), same_bytes token.bytes (word_of keyword) (both_right (has_kind Word token) _ h))
fits-is Comma token h = (kind_is token.kind Mark (both_left _ _ h), same_bytes token.bytes (comma_byte ∷ []) (both_right (has_kind Mark token) _ h))
fits-is Semicolon token h = (kind_is token.kind Mark (both_left _ _ h), same_bytes token.bytes (semicolon_byte ∷ []) (both_right (has_kind Mark token) _ h))
fits-is Dollar token h = (kind_is token.kind Mark (both_left _ _ h), same_bytes token.bytes (dollar_byte ∷ []) (both_right (has_kind Mark token) _ h))

-- a token that is a word or mark has its kind and its bytes
kind_of : (p : Fixed) (token : Lexeme) → IsRulePiece token (fixed p) → token.kind ≡ (token_of p).kind
kind_of (Key keyword) token h = h.0
kind_of Comma token h = h.0
kind_of Semicolon token h = h.0
kind_of Dollar token h = h.0

bytes_of : (p : Fixed) (token : Lexeme) → IsRulePiece token (fixed p) → token.bytes ≡ (token_of p).bytes
bytes_of (Key keyword) token h = h.1
bytes_of Comma token h = h.1
bytes_of Semicolon token h = h.1
bytes_of Dollar token h = h.1

-- so it is another word or mark exactly where that is
pub fits_as : (p q : Fixed) (token : Lexeme) → IsRulePiece token (fixed q) → fits p token ≡ fits p (token_of q)
fits_as p q token h = fits_same p token (token_of q) (kind_of q token h) (bytes_of q token h)

pub is-fits : (p : Fixed) (token : Lexeme) → IsRulePiece token (fixed p) → fits p token ≡ true
is-fits p token h = fits_as p p token h ∙ fits_own p

-- no token that is the piece is this word or mark
abbrev pub apart : Fixed → RulePiece → Bool
apart p (fixed q) = not (fits p (token_of q))
apart p (word_at keyword at) = not (fits p (token_of (Key keyword)))
apart p (name n) = true
apart p (number n) = true

-- a token of another kind is no such word or mark
name_fits : (p : Fixed) (token : Lexeme) (n : Spelling) → IsRulePiece token (name n) → fits p token ≡ false
name_fits (Key keyword) token n h =
    ap (λ v. same_kind v Word && pointwise nat_eq token.bytes (word_of keyword)) h.0 ∙ ap (λ v. pointwise nat_eq v (word_of keyword)) h.1 ∙ name_apart keyword n.bytes h.3
name_fits Comma token n h = ap (λ v. same_kind v Mark && pointwise nat_eq token.bytes (comma_byte ∷ [])) h.0
name_fits Semicolon token n h = ap (λ v. same_kind v Mark && pointwise nat_eq token.bytes (semicolon_byte ∷ [])) h.0
name_fits Dollar token n h = ap (λ v. same_kind v Mark && pointwise nat_eq token.bytes (dollar_byte ∷ [])) h.0

number_fits : (p : Fixed) (token : Lexeme) (n : Spelling) → IsRulePiece token (number n) → fits p token ≡ false
number_fits (Key keyword) token n h = ap (λ v. same_kind v Word && pointwise nat_eq token.bytes (word_of keyword)) h.0
number_fits Comma token n h = ap (λ v. same_kind v Mark && pointwise nat_eq token.bytes (comma_byte ∷ [])) h.0
number_fits Semicolon token n h = ap (λ v. same_kind v Mark && pointwise nat_eq token.bytes (semicolon_byte ∷ [])) h.0
number_fits Dollar token n h = ap (λ v. same_kind v Mark && pointwise nat_eq token.bytes (dollar_byte ∷ [])) h.0

pub apart-fits : (p : Fixed) (q : RulePiece) (token : Lexeme) → apart p q ≡ true → IsRulePiece token q → fits p token ≡ false
apart-fits p (fixed q) token h is = fits_as p q token is ∙ true_not (fits p (token_of q)) h
apart-fits p (word_at keyword at) token h is = fits_as p (Key keyword) token (is.0, is.1) ∙ true_not (fits p (token_of (Key keyword))) h
apart-fits p (name n) token h is = name_fits p token n is
apart-fits p (number n) token h is = number_fits p token n is

pub fits-apart : (p : Fixed) (q : RulePiece) (token : Lexeme) → fits p token ≡ false → IsRulePiece token q → apart p q ≡ true
fits-apart p (fixed q) token h is = ap not (sym (fits_as p q token is) ∙ h)
fits-apart p (word_at keyword at) token h is = ap not (sym (fits_as p (Key keyword) token (is.0, is.1)) ∙ h)
fits-apart p (name n) token h is = refl
fits-apart p (number n) token h is = refl

-- ---- what is wanted

-- the piece that is wanted, spelt so
abbrev pub spelt : Wanted → Spelling → RulePiece
spelt a_name n = name n
spelt a_number n = number n
spelt (a_word keyword) n = word_at keyword n.at

-- a word that is wanted is spelt as it is
abbrev pub IsOwn : Wanted → Spelling → Type 0
IsOwn a_name n = Unit {0}
IsOwn a_number n = Unit {0}
IsOwn (a_word keyword) n = n.bytes ≡ word_of keyword

pub wants-is : (w : Wanted) (token : Lexeme) → wants w token ≡ true → IsRulePiece token (spelt w (spelt_by token))
wants-is a_name token h = (kind_is token.kind Word (both_left _ _ h), refl, refl, both_right (has_kind Word token) (is_name token.bytes) h)
wants-is a_number token h = (kind_is token.kind number_kind h, refl, refl)
wants-is (a_word keyword) token h =
    (kind_is token.kind Word (both_left _ _ h), same_bytes token.bytes (word_of keyword) (both_right (has_kind Word token) _ h), refl)

pub wants-own : (w : Wanted) (token : Lexeme) → wants w token ≡ true → IsOwn w (spelt_by token)
wants-own a_name token h = tt
wants-own a_number token h = tt
wants-own (a_word keyword) token h = same_bytes token.bytes (word_of keyword) (both_right (has_kind Word token) _ h)

pub is-wants : (w : Wanted) (token : Lexeme) (n : Spelling) → IsRulePiece token (spelt w n) → wants w token ≡ true
is-wants a_name token n h = both _ _ (ap (λ k. same_kind k Word) h.0) (ap is_name h.1 ∙ h.3)
is-wants a_number token n h = ap (λ k. same_kind k number_kind) h.0
is-wants (a_word keyword) token n h = both _ _ (ap (λ k. same_kind k Word) h.0) (bytes_same token.bytes (word_of keyword) h.1)

-- the spelling that a token has
spelling_is : (token : Lexeme) (n : Spelling) → token.bytes ≡ n.bytes → token.at ≡ n.at → spelt_by token ≡ n
spelling_is token n a b = let e : spelt_by token ≡ record { bytes = n.bytes; at = n.at } = cc in e

pub is-spelt : (w : Wanted) (token : Lexeme) (n : Spelling) → IsRulePiece token (spelt w n) → IsOwn w n → spelt_by token ≡ n
is-spelt a_name token n h own = spelling_is token n h.1 h.2
is-spelt a_number token n h own = spelling_is token n h.1 h.2
is-spelt (a_word keyword) token n h own = spelling_is token n (h.1 ∙ sym own) h.2

-- no token that is the piece is what is wanted
abbrev pub misses : Wanted → RulePiece → Bool
misses a_name (fixed q) = true
misses a_name (word_at keyword at) = true
misses a_name (name n) = false
misses a_name (number n) = true
misses a_number (fixed q) = true
misses a_number (word_at keyword at) = true
misses a_number (name n) = true
misses a_number (number n) = false
misses (a_word keyword) q = apart (Key keyword) q

-- a word of rules or a mark is neither a name nor a number
fixed_name : (q : Fixed) (token : Lexeme) → IsRulePiece token (fixed q) → wants a_name token ≡ false
fixed_name (Key keyword) token is = ap (λ k. same_kind k Word && is_name token.bytes) is.0 ∙ ap is_name is.1 ∙ no_name keyword
fixed_name Comma token is = ap (λ k. same_kind k Word && is_name token.bytes) is.0
fixed_name Semicolon token is = ap (λ k. same_kind k Word && is_name token.bytes) is.0
fixed_name Dollar token is = ap (λ k. same_kind k Word && is_name token.bytes) is.0

fixed_number : (q : Fixed) (token : Lexeme) → IsRulePiece token (fixed q) → wants a_number token ≡ false
fixed_number (Key keyword) token is = ap (λ k. same_kind k number_kind) is.0
fixed_number Comma token is = ap (λ k. same_kind k number_kind) is.0
fixed_number Semicolon token is = ap (λ k. same_kind k number_kind) is.0
fixed_number Dollar token is = ap (λ k. same_kind k number_kind) is.0

pub misses-wants : (w : Wanted) (q : RulePiece) (token : Lexeme) → misses w q ≡ true → IsRulePiece token q → wants w token ≡ false
misses-wants a_name (fixed q) token h is = fixed_name q token is
misses-wants a_name (word_at keyword at) token h is = fixed_name (Key keyword) token (is.0, is.1)
misses-wants a_name (name n) token h is = absurd (let e : false ≡ true = h in cc)
misses-wants a_name (number n) token h is = ap (λ k. same_kind k Word && is_name token.bytes) is.0
misses-wants a_number (fixed q) token h is = fixed_number q token is
misses-wants a_number (word_at keyword at) token h is = fixed_number (Key keyword) token (is.0, is.1)
misses-wants a_number (name n) token h is = ap (λ k. same_kind k number_kind) is.0
misses-wants a_number (number n) token h is = absurd (let e : false ≡ true = h in cc)
misses-wants (a_word keyword) q token h is = apart-fits (Key keyword) q token h is

pub wants-misses : (w : Wanted) (q : RulePiece) (token : Lexeme) → wants w token ≡ false → IsRulePiece token q → misses w q ≡ true
wants-misses a_name (fixed q) token h is = refl
wants-misses a_name (word_at keyword at) token h is = refl
wants-misses a_name (name n) token h is = absurd (not_both (wants a_name token) (is-wants a_name token n is) h)
wants-misses a_name (number n) token h is = refl
wants-misses a_number (fixed q) token h is = refl
wants-misses a_number (word_at keyword at) token h is = refl
wants-misses a_number (name n) token h is = refl
wants-misses a_number (number n) token h is = absurd (not_both (wants a_number token) (is-wants a_number token n is) h)
wants-misses (a_word keyword) q token h is = fits-apart (Key keyword) q token h is

-- ---- tokens that are one piece

-- tokens that are one piece are of one kind, and have the same bytes
pub kind_alike : (q : RulePiece) (one other : Lexeme) → IsRulePiece one q → IsRulePiece other q → one.kind ≡ other.kind
kind_alike (fixed q) one other h g = kind_of q one h ∙ sym (kind_of q other g)
kind_alike (word_at keyword at) one other h g = h.0 ∙ sym g.0
kind_alike (name n) one other h g = h.0 ∙ sym g.0
kind_alike (number n) one other h g = h.0 ∙ sym g.0

pub bytes_alike : (q : RulePiece) (one other : Lexeme) → IsRulePiece one q → IsRulePiece other q → one.bytes ≡ other.bytes
bytes_alike (fixed q) one other h g = bytes_of q one h ∙ sym (bytes_of q other g)
bytes_alike (word_at keyword at) one other h g = h.1 ∙ sym g.1
bytes_alike (name n) one other h g = h.1 ∙ sym g.1
bytes_alike (number n) one other h g = h.1 ∙ sym g.1

-- ---- the brace that closes rules

-- no token of a rule is the brace that closes rules
pub no_brace : (q : RulePiece) (token : Lexeme) → IsRulePiece token q → is_this_mark close_brace_byte token ≡ false
no_brace (fixed (Key keyword)) token is = ap (λ k. same_kind k Mark && pointwise nat_eq token.bytes (close_brace_byte ∷ [])) is.0
no_brace (fixed Comma) token is =
    ap (λ v. same_kind v Mark && pointwise nat_eq token.bytes (close_brace_byte ∷ [])) is.0 ∙ ap (λ v. pointwise nat_eq v (close_brace_byte ∷ [])) is.1
no_brace (fixed Semicolon) token is =
    ap (λ v. same_kind v Mark && pointwise nat_eq token.bytes (close_brace_byte ∷ [])) is.0 ∙ ap (λ v. pointwise nat_eq v (close_brace_byte ∷ [])) is.1
no_brace (fixed Dollar) token is =
    ap (λ v. same_kind v Mark && pointwise nat_eq token.bytes (close_brace_byte ∷ [])) is.0 ∙ ap (λ v. pointwise nat_eq v (close_brace_byte ∷ [])) is.1
no_brace (word_at keyword at) token is = ap (λ k. same_kind k Mark && pointwise nat_eq token.bytes (close_brace_byte ∷ [])) is.0
no_brace (name n) token is = ap (λ k. same_kind k Mark && pointwise nat_eq token.bytes (close_brace_byte ∷ [])) is.0
no_brace (number n) token is = ap (λ k. same_kind k Mark && pointwise nat_eq token.bytes (close_brace_byte ∷ [])) is.0
