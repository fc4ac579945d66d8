-- Tests of tokens and what they say.
use Rattle.std.proofs.Common.{◌≡◌, ◌⊎◌, inl, inr, ℕ, ◌==◌, ◌&&◌, ◌||◌, Bool, true, false, not, if◌then◌else◌, List, [], ◌∷◌, refl, sym, ap, ◌∙◌, nat_eq}
use Rattle.std.specs.Prelude.{None, Some}
use Rattle.std.specs.declared.option.Option.{Option}
use Rattle.std.specs.List.{list_all}
use Rattle.std.specs.Cmp.Lexicographic.{pointwise, bytes_decides}
use Rattle.std.proofs.lemmas.Bool.{eq-eqb, eqb-true}
use Rattle.sg_rules.specs.sg_lex.declared.token.TokenKind.{TokenKind}
use Rattle.sg_rules.specs.sg_lex.declared.token.TokenKind.TheVariants.{Word, Number, Mark}
use Rattle.sg_rules.specs.sg_lex.Lexeme.{Lexeme, Spelling as Named}
use Rattle.sg_rules.specs.sg_lex.Inside.Tests.{same_kind, has_kind}
use Rattle.sg_rules.proofs.sg_lex.SameKinds.{kind_is}
use Rattle.sg_rules.specs.declared.version.Newer.TheVariants.{Second, Third}
use Rattle.sg_rules.specs.declared.words.Wanted.TheVariants.{Name as rule_name}
use Rattle.sg_rules.specs.Versions.{is_kept, seen}
use Rattle.sg_rules.specs.Inside.Seen.{turned, kind_seen}
use Rattle.sg_rules.specs.Grammar.Words.{word_of, is_name}
use Rattle.sg_rules.specs.Grammar.Pieces.{RulePiece, fixed, word_at, name as name_in_rule, number as number_in_rule, IsRulePiece}
use Rattle.sg_rules.specs.Grammar.Inside.States.{wants}
use Rattle.sg_rules.proofs.Seen.{kind_back}
use Rattle.sg_rules.proofs.Grammar.Basics.{fits-is as fixed-is, is-fits as is-fixed, wants-is, is-wants, kind_alike, bytes_alike}
use Rattle.sg_parse.specs.declared.words.Sort.{Sort}
use Rattle.sg_parse.specs.declared.words.Sort.TheVariants.{Name}
use Rattle.sg_parse.specs.Grammar.Words.{is_of}
use Rattle.sg_parse.specs.Grammar.Inside.Words.{is_in, reserved_words}
use Rattle.sg_parse.specs.Grammar.Pieces.{Piece, word, mark, name, number, version_number, kept, newer, rule, are_digit, are_of, IsPiece}
use Rattle.sg_parse.specs.Grammar.Inside.States.{has_sort, is_spelt, is_of_rule, fits, named_by}

-- ---- tests

pub by_test : {X : Type 0} (b : Bool) → (b ≡ true → X) → (b ≡ false → X) → X
by_test true hit miss = hit refl
by_test false hit miss = miss refl

pub some_is : {X : Type 0} (x y : X) → Some x ≡ Some y → x ≡ y
some_is x y e = cc

pub none_is : {X : Type 0} (Y : Type 0) (x : X) (o : Option X) → o ≡ None → o ≡ Some x → Y
none_is Y x o e g = absurd (let f = sym e ∙ g in cc)

pub if_then : {X : Type 0} (b : Bool) (x y : X) → b ≡ true → (if b then x else y) ≡ x
if_then true x y h = refl
if_then false x y h = absurd (let e : false ≡ true = h in cc)

pub if_else : {X : Type 0} (b : Bool) (x y : X) → b ≡ false → (if b then x else y) ≡ y
if_else false x y h = refl
if_else true x y h = absurd (let e : true ≡ false = h in cc)

pub both_left : (a b : Bool) → (a && b) ≡ true → a ≡ true
both_left true b h = refl
both_left false b h = h

pub both_right : (a b : Bool) → (a && b) ≡ true → b ≡ true
both_right true b h = h
both_right false b h = absurd (let e : false ≡ true = h in cc)

pub both : (a b : Bool) → a ≡ true → b ≡ true → (a && b) ≡ true
both true b h g = g
both false b h g = h

pub not_both : (b : Bool) → b ≡ true → b ≡ false → ⊥
not_both b h g = let e : true ≡ false = sym h ∙ g in cc

-- ---- bytes and words

pub same_bytes : (a b : List ℕ) → pointwise nat_eq a b ≡ true → a ≡ b
same_bytes a b h = (bytes_decides a b).0 h

pub bytes_same : (a b : List ℕ) → a ≡ b → pointwise nat_eq a b ≡ true
bytes_same a b e = (bytes_decides a b).1 e

pub or_right : (a b : Bool) → a ≡ false → (a || b) ≡ true → b ≡ true
or_right false b e g = g
or_right true b e g = absurd (let f : true ≡ false = e in cc)

-- a test that all of these words pass
pub carried : (test : List ℕ → Bool) (words : List (List ℕ)) (w : List ℕ) → list_all test words ≡ true → is_in words w ≡ true → test w ≡ true
carried test [] w h g = absurd (let e : false ≡ true = g in cc)
carried test (v ∷ vs) w h g =
    by_test (pointwise nat_eq w v)
    (λ e. ap test (same_bytes w v e) ∙ both_left (test v) (list_all test vs) h)
    (λ e. carried test vs w (both_right (test v) (list_all test vs) h) (or_right (pointwise nat_eq w v) (is_in vs w) e g))

-- a word that is in none of those that another is in
pub apart : (these those : List (List ℕ)) (w : List ℕ) → list_all (λ v. not (is_in those v)) these ≡ true → is_in these w ≡ true → is_in those w ≡ false
apart these those w h g = not_true (is_in those w) (carried (λ v. not (is_in those v)) these w h g)
  where
    not_true : (b : Bool) → not b ≡ true → b ≡ false
    not_true false e = refl
    not_true true e = absurd (let f : false ≡ true = e in cc)

-- a name is none of the reserved words
pub name_apart : (these : List (List ℕ)) (w : List ℕ) → list_all (is_in reserved_words) these ≡ true → is_of Name w ≡ true → is_in these w ≡ false
name_apart these w h g =
    by_test (is_in these w)
    (λ e. absurd (not_both (not (is_in reserved_words w)) g (ap not (carried (is_in reserved_words) these w h e))))
    (λ e. e)

-- nor is one of these a name
pub reserved_apart : (these : List (List ℕ)) (w : List ℕ) → list_all (is_in reserved_words) these ≡ true → is_in these w ≡ true → is_of Name w ≡ false
reserved_apart these w h g = ap not (carried (is_in reserved_words) these w h g)

-- ---- tokens and pieces

pub has_sort-is : (sort : Sort) (token : Lexeme) → has_sort sort token ≡ true → IsPiece token (name sort (named_by token))
has_sort-is sort token h =
    (kind_is token.kind Word (both_left _ _ h), refl, refl, both_right (has_kind Word token) (is_of sort token.bytes) h)

pub is-has_sort : (sort : Sort) (token : Lexeme) (n : Named) → IsPiece token (name sort n) → has_sort sort token ≡ true
is-has_sort sort token n h =
    both _ _ (ap (λ k. same_kind k Word) h.0) (ap (is_of sort) h.1 ∙ h.3)

-- a number
pub number-is : (token : Lexeme) → has_kind Number token ≡ true → IsPiece token (number (named_by token))
number-is token h = (kind_is token.kind Number h, refl, refl)

pub is-number : (token : Lexeme) (n : Named) → IsPiece token (number n) → has_kind Number token ≡ true
is-number token n h = ap (λ k. same_kind k Number) h.0

-- the number that a token is
pub number_named : (token : Lexeme) (n : Named) → IsPiece token (number n) → named_by token ≡ n
number_named token n h = let a = h.1 in let b = h.2 in let e : named_by token ≡ record { bytes = n.bytes; at = n.at } = cc in e

-- the name that a token is
pub named : (sort : Sort) (token : Lexeme) (n : Named) → IsPiece token (name sort n) → named_by token ≡ n
named sort token n h = let a = h.1 in let b = h.2 in let e : named_by token ≡ record { bytes = n.bytes; at = n.at } = cc in e

-- a token that is spelt so
spelt-is : (n : Named) (token : Lexeme) → is_spelt n token ≡ true → (token.bytes ≡ n.bytes) × (token.at ≡ n.at)
spelt-is n token h =
    (same_bytes token.bytes n.bytes (both_left _ _ h), eqb-true token.at n.at (both_right (pointwise nat_eq token.bytes n.bytes) _ h))

is-spelt : (n : Named) (token : Lexeme) → token.bytes ≡ n.bytes → token.at ≡ n.at → is_spelt n token ≡ true
is-spelt n token b a = both _ _ (bytes_same token.bytes n.bytes b) (eq-eqb token.at n.at a)

-- a piece of a rule
of_rule-is : (p : RulePiece) (token : Lexeme) → is_of_rule p token ≡ true → IsRulePiece token p
of_rule-is (fixed p) token h = fixed-is p token h
of_rule-is (word_at keyword at) token h =
    let w = both_left _ _ h in
    (kind_is token.kind Word (both_left _ _ w), same_bytes token.bytes (word_of keyword) (both_right (has_kind Word token) _ w), eqb-true token.at at (both_right _ (token.at == at) h))
of_rule-is (name_in_rule n) token h =
    let w = wants-is rule_name token (both_left _ _ h) in
    let s = spelt-is n token (both_right (wants rule_name token) _ h) in
    (w.0, s.0, s.1, sym (ap is_name s.0) ∙ w.3)
of_rule-is (number_in_rule n) token h =
    let s = spelt-is n token (both_right (has_kind Number token) _ h) in
    (kind_is token.kind Number (both_left _ _ h), s.0, s.1)

is-of_rule : (p : RulePiece) (token : Lexeme) → IsRulePiece token p → is_of_rule p token ≡ true
is-of_rule (fixed p) token h = is-fixed p token h
is-of_rule (word_at keyword at) token h =
    both _ _ (both _ _ (ap (λ k. same_kind k Word) h.0) (bytes_same token.bytes (word_of keyword) h.1)) (eq-eqb token.at at h.2)
is-of_rule (name_in_rule n) token h = both _ _ (is-wants rule_name token n h) (is-spelt n token h.1 h.2)
is-of_rule (number_in_rule n) token h = both _ _ (ap (λ k. same_kind k Number) h.0) (is-spelt n token h.1 h.2)

pub fits-is : (p : Piece) (token : Lexeme) → fits p token ≡ true → IsPiece token p
fits-is (word w) token h =
    (kind_is token.kind Word (both_left _ _ h), same_bytes token.bytes w (both_right (has_kind Word token) _ h))
fits-is (mark b) token h =
    (kind_is token.kind Mark (both_left _ _ h), same_bytes token.bytes b (both_right (has_kind Mark token) _ h))
fits-is (name sort n) token h =
    let is = has_sort-is sort token (both_left (has_sort sort token) _ h) in
    let s = spelt-is n token (both_right (has_sort sort token) (is_spelt n token) h) in
    (is.0, s.0, s.1, sym (ap (is_of sort) s.0) ∙ is.3)
fits-is (number n) token h =
    let s = spelt-is n token (both_right (has_kind Number token) (is_spelt n token) h) in
    (kind_is token.kind Number (both_left _ _ h), s.0, s.1)
fits-is (version_number version) token h = (kind_is token.kind Number (both_left _ _ h), both_right (has_kind Number token) (are_of version token.bytes) h)
fits-is (kept bytes) token h =
    (kind_is token.kind Mark (both_left _ _ h), same_bytes token.bytes bytes (both_right (has_kind Mark token) _ h))
fits-is (newer version p) token h = fits-is p (seen version token) h
fits-is (rule p) token h = of_rule-is p token h

pub is-fits : (p : Piece) (token : Lexeme) → IsPiece token p → fits p token ≡ true
is-fits (word w) token h = both _ _ (ap (λ k. same_kind k Word) h.0) (bytes_same token.bytes w h.1)
is-fits (mark b) token h = both _ _ (ap (λ k. same_kind k Mark) h.0) (bytes_same token.bytes b h.1)
is-fits (name sort n) token h = both _ _ (is-has_sort sort token n h) (is-spelt n token h.1 h.2)
is-fits (number n) token h = both _ _ (ap (λ k. same_kind k Number) h.0) (is-spelt n token h.1 h.2)
is-fits (version_number version) token h = both _ _ (ap (λ k. same_kind k Number) h.0) h.1
is-fits (kept bytes) token h = both _ _ (ap (λ k. same_kind k Mark) h.0) (bytes_same token.bytes bytes h.1)
is-fits (newer version p) token h = is-fits p (seen version token) h
is-fits (rule p) token h = is-of_rule p token h

-- a mark is no word, a word no mark
pub mark-has_sort : (sort : Sort) (token : Lexeme) → token.kind ≡ Mark → has_sort sort token ≡ false
mark-has_sort sort token h = ap (λ k. same_kind k Word && is_of sort token.bytes) h

pub word-fits_mark : (b : List ℕ) (token : Lexeme) → token.kind ≡ Word → fits (mark b) token ≡ false
word-fits_mark b token h = ap (λ k. same_kind k Mark && pointwise nat_eq token.bytes b) h

pub mark-fits_word : (w : List ℕ) (token : Lexeme) → token.kind ≡ Mark → fits (word w) token ≡ false
mark-fits_word w token h = ap (λ k. same_kind k Word && pointwise nat_eq token.bytes w) h

-- another mark
pub mark-fits_mark : (a b : List ℕ) (token : Lexeme) → IsPiece token (mark a) → pointwise nat_eq a b ≡ false → fits (mark b) token ≡ false
mark-fits_mark a b token h g = ap (λ k. same_kind k Mark && pointwise nat_eq token.bytes b) h.0 ∙ ap (λ v. pointwise nat_eq v b) h.1 ∙ g

-- a word of a sort has no other sort whose words are apart, nor is it another word
pub sort-has_sort : (sort other : Sort) (token : Lexeme) (n : Named) → IsPiece token (name sort n) → is_of other n.bytes ≡ false → has_sort other token ≡ false
sort-has_sort sort other token n h g = ap (λ k. same_kind k Word && is_of other token.bytes) h.0 ∙ ap (is_of other) h.1 ∙ g

pub sort-fits_word : (sort : Sort) (w : List ℕ) (token : Lexeme) (n : Named) → IsPiece token (name sort n) → is_in (w ∷ []) n.bytes ≡ false → fits (word w) token ≡ false
sort-fits_word sort w token n h g =
    ap (λ k. same_kind k Word && pointwise nat_eq token.bytes w) h.0 ∙ ap (λ v. pointwise nat_eq v w) h.1 ∙ or_left _ _ g
  where
    or_left : (a b : Bool) → (a || b) ≡ false → a ≡ false
    or_left false b e = refl
    or_left true b e = absurd (let f : true ≡ false = e in cc)

pub word-has_sort : (sort : Sort) (w : List ℕ) (token : Lexeme) → IsPiece token (word w) → is_of sort w ≡ false → has_sort sort token ≡ false
word-has_sort sort w token h g = ap (λ k. same_kind k Word && is_of sort token.bytes) h.0 ∙ ap (is_of sort) h.1 ∙ g

pub word-fits_word : (w other : List ℕ) (token : Lexeme) → IsPiece token (word w) → pointwise nat_eq w other ≡ false → fits (word other) token ≡ false
word-fits_word w other token h g = ap (λ k. same_kind k Word && pointwise nat_eq token.bytes other) h.0 ∙ ap (λ v. pointwise nat_eq v other) h.1 ∙ g

pub word-fits_kept : (bytes : List ℕ) (token : Lexeme) → token.kind ≡ Word → fits (kept bytes) token ≡ false
word-fits_kept bytes token h = ap (λ k. same_kind k Mark && pointwise nat_eq token.bytes bytes) h

-- another kept word
pub kept-fits_kept : (bytes other : List ℕ) (token : Lexeme) → IsPiece token (kept bytes) → pointwise nat_eq bytes other ≡ false → fits (kept other) token ≡ false
kept-fits_kept bytes other token h g = mark-fits_mark bytes other token h g

-- digits that are 3 aren't 2
apart_digits : (digits : List ℕ) → are_digit 0x33 digits ≡ true → are_digit 0x32 digits ≡ false
apart_digits [] h = absurd (let e : false ≡ true = h in cc)
apart_digits (d ∷ []) h = ap (λ v. v == 0x32) (eqb-true d 0x33 h)
apart_digits (d ∷ next ∷ digits) h = by (apart_digits (next ∷ digits)) (d == 0x30) h
  where
    by : (are_digit 0x33 (next ∷ digits) ≡ true → are_digit 0x32 (next ∷ digits) ≡ false) → (b : Bool)
        → (if b then are_digit 0x33 (next ∷ digits) else false) ≡ true → (if b then are_digit 0x32 (next ∷ digits) else false) ≡ false
    by deeper true h = deeper h
    by deeper false h = refl

-- the number of another version
pub third-fits_second : (token : Lexeme) → IsPiece token (version_number Third) → fits (version_number Second) token ≡ false
third-fits_second token h = ap (λ k. same_kind k Number && are_of Second token.bytes) h.0 ∙ apart_digits token.bytes h.1

-- tokens that are one piece are of one kind, and have the same bytes or are numbers
record IsAlike (one other : Lexeme) : Type 0 where
  kind : one.kind ≡ other.kind
  bytes : (one.bytes ≡ other.bytes) ⊎ (other.kind ≡ Number)

alike : (p : Piece) (one other : Lexeme) → IsPiece one p → IsPiece other p → IsAlike one other
alike (word w) one other h g = record { kind = h.0 ∙ sym g.0; bytes = inl (h.1 ∙ sym g.1) }
alike (mark b) one other h g = record { kind = h.0 ∙ sym g.0; bytes = inl (h.1 ∙ sym g.1) }
alike (name sort n) one other h g = record { kind = h.0 ∙ sym g.0; bytes = inl (h.1 ∙ sym g.1) }
alike (number n) one other h g = record { kind = h.0 ∙ sym g.0; bytes = inl (h.1 ∙ sym g.1) }
alike (version_number version) one other h g = record { kind = h.0 ∙ sym g.0; bytes = inr g.0 }
alike (kept bytes) one other h g = record { kind = h.0 ∙ sym g.0; bytes = inl (h.1 ∙ sym g.1) }
alike (rule p) one other h g = record { kind = kind_alike p one other h g; bytes = inl (bytes_alike p one other h g) }
alike (newer version p) one other h g =
    let s = alike p (seen version one) (seen version other) h g in
    elim s.bytes [
      | inl same ↦ record {
        kind = sym (kind_back version one.bytes one.kind) ∙ ap (kind_seen version one.bytes) s.kind ∙ ap (λ v. kind_seen version v (kind_seen version other.bytes other.kind)) same
            ∙ kind_back version other.bytes other.kind;
        bytes = inl same;
      }
      | inr digits ↦
          let its = number_back other digits in
          record { kind = number_back one (s.kind ∙ digits) ∙ sym its; bytes = inr its }
    ]
  where
    still : (b : Bool) → (if b then turned Number else Number) ≡ Number
    still true = refl
    still false = refl

    number_back : (token : Lexeme) → kind_seen version token.bytes token.kind ≡ Number → token.kind ≡ Number
    number_back token is = sym (kind_back version token.bytes token.kind) ∙ ap (kind_seen version token.bytes) is ∙ still (is_kept version token.bytes)

-- so tests of words and of marks answer alike
tests_alike : (p : Piece) (test : TokenKind → List ℕ → Bool) → ((bytes : List ℕ) → test Number bytes ≡ false) → (one other : Lexeme) → IsPiece one p → IsPiece other p
    → test one.kind one.bytes ≡ false → test other.kind other.bytes ≡ false
tests_alike p test none one other h g e =
    let s = alike p one other h g in
    elim s.bytes [
      | inl same ↦ ap (λ k. test k other.bytes) (sym s.kind) ∙ ap (test one.kind) (sym same) ∙ e
      | inr digits ↦ ap (λ k. test k other.bytes) digits ∙ none other.bytes
    ]

pub alike-has_sort : (sort : Sort) (p : Piece) (one other : Lexeme) → IsPiece one p → IsPiece other p → has_sort sort one ≡ false → has_sort sort other ≡ false
alike-has_sort sort p one other h g e = tests_alike p (λ k v. same_kind k Word && is_of sort v) (λ v. refl) one other h g e

pub alike-fits_mark : (b : List ℕ) (p : Piece) (one other : Lexeme) → IsPiece one p → IsPiece other p → fits (mark b) one ≡ false → fits (mark b) other ≡ false
alike-fits_mark b p one other h g e = tests_alike p (λ k v. same_kind k Mark && pointwise nat_eq v b) (λ v. refl) one other h g e

pub alike-fits_word : (w : List ℕ) (p : Piece) (one other : Lexeme) → IsPiece one p → IsPiece other p → fits (word w) one ≡ false → fits (word w) other ≡ false
alike-fits_word w p one other h g e = tests_alike p (λ k v. same_kind k Word && pointwise nat_eq v w) (λ v. refl) one other h g e
