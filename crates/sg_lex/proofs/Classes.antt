-- Which classes a byte may be in at once.
use Rattle.std.proofs.Common.{ℕ, ◌≤◌, ◌≡◌, ◌∙◌, ◌||◌, true, false, List, [], ◌∷◌, refl, sym, subst, arith, eqb, leb, inl, inr}
use Rattle.std.specs.Prelude.{codes}
use Rattle.std.specs.List.{list_any}
use Rattle.std.specs.Char.{is_ascii_digit, is_ascii_alphabetic}
use Rattle.std.specs.Int.{is_in_range}
use Rattle.std.proofs.lemmas.Bool.{or_cases, and_parts, eqb-true, leb-true, false_from_ne_true, false≢true}
use Rattle.sg_lex.specs.Bytes.{begins_word}
use Rattle.sg_lex.specs.Table.{is_blank, is_mark}

-- a byte among some has what each of them has
abbrev AllHave : (ℕ → Type 0) → List ℕ → Type 0
AllHave P [] = Unit {0}
AllHave P (x ∷ xs) = P x × AllHave P xs

among : (P : ℕ → Type 0) (b : ℕ) (xs : List ℕ) → list_any (λ x. eqb x b) xs ≡ true → AllHave P xs → P b
among P b [] e h = absurd (false≢true e)
among P b (x ∷ xs) e h =
    elim (or_cases (eqb x b) (list_any (λ y. eqb y b) xs) e) as (λ v. P b) [ inl f ↦ subst P (eqb-true x b f) h.0 | inr f ↦ among P b xs f h.1 ]

pub mark_is : (P : ℕ → Type 0) (b : ℕ) → is_mark b ≡ true → AllHave P (codes "{}()=,;*$") → P b
mark_is P b e h = among P b (codes "{}()=,;*$") e h

pub blank_is : (P : ℕ → Type 0) (b : ℕ) → is_blank b ≡ true → P 0x20 → P 0x09 → P 0x0D → P 0x0A → P b
blank_is P b e p q r s =
    elim (or_cases (eqb b 0x20 || eqb b 0x09 || eqb b 0x0D) (eqb b 0x0A) e) as (λ v. P b) [
      | inl f ↦ elim (or_cases (eqb b 0x20 || eqb b 0x09) (eqb b 0x0D) f) as (λ v. P b) [
        | inl g ↦ elim (or_cases (eqb b 0x20) (eqb b 0x09) g) as (λ v. P b) [
          | inl h ↦ subst P (sym (eqb-true b 0x20 h)) p
          | inr h ↦ subst P (sym (eqb-true b 0x09 h)) q
        ]
        | inr g ↦ subst P (sym (eqb-true b 0x0D g)) r
      ]
      | inr f ↦ subst P (sym (eqb-true b 0x0A f)) s
    ]

pub word_from : (b : ℕ) → begins_word b ≡ true → 65 ≤ b
word_from b e =
    elim (or_cases (is_ascii_alphabetic b) (eqb b 0x5F) e) as (λ v. 65 ≤ b) [
      | inl f ↦ elim (or_cases (is_in_range 65 90 b) (is_in_range 97 122 b) f) as (λ v. 65 ≤ b) [
        | inl g ↦ leb-true 65 b (and_parts (leb 65 b) (leb b 90) g).0
        | inr g ↦ (let h : 97 ≤ b = leb-true 97 b (and_parts (leb 97 b) (leb b 122) g).0 in omega arith)
      ]
      | inr f ↦ (let h : b ≡ 0x5F = eqb-true b 0x5F f in omega arith)
    ]

pub digit_from : (b : ℕ) → is_ascii_digit b ≡ true → 48 ≤ b
digit_from b e = leb-true 48 b (and_parts (leb 48 b) (leb b 57) e).0

pub digit_to : (b : ℕ) → is_ascii_digit b ≡ true → b ≤ 57
digit_to b e = leb-true b 57 (and_parts (leb 48 b) (leb b 57) e).1

-- ---- no byte is in two of the classes that a front is told by

pub word_not_blank : (b : ℕ) → begins_word b ≡ true → is_blank b ≡ false
word_not_blank b e = false_from_ne_true (is_blank b) (λ f. false≢true (blank_is (λ c. false ≡ begins_word c) b f refl refl refl refl ∙ e))

pub digit_not_blank : (b : ℕ) → is_ascii_digit b ≡ true → is_blank b ≡ false
digit_not_blank b e = false_from_ne_true (is_blank b) (λ f. false≢true (blank_is (λ c. false ≡ is_ascii_digit c) b f refl refl refl refl ∙ e))

pub digit_not_word : (b : ℕ) → is_ascii_digit b ≡ true → begins_word b ≡ false
digit_not_word b e =
    false_from_ne_true (begins_word b) (λ f. let low : 65 ≤ b = word_from b f in let high : b ≤ 57 = digit_to b e in absurd (omega arith))

pub word_not_digit : (b : ℕ) → begins_word b ≡ true → is_ascii_digit b ≡ false
word_not_digit b e =
    false_from_ne_true (is_ascii_digit b) (λ f. let low : 65 ≤ b = word_from b e in let high : b ≤ 57 = digit_to b f in absurd (omega arith))

pub mark_not_blank : (b : ℕ) → is_mark b ≡ true → is_blank b ≡ false
mark_not_blank b e = mark_is (λ c. is_blank c ≡ false) b e (refl, (refl, (refl, (refl, (refl, (refl, (refl, (refl, (refl, tt)))))))))

pub mark_not_word : (b : ℕ) → is_mark b ≡ true → begins_word b ≡ false
mark_not_word b e = mark_is (λ c. begins_word c ≡ false) b e (refl, (refl, (refl, (refl, (refl, (refl, (refl, (refl, (refl, tt)))))))))

pub mark_not_digit : (b : ℕ) → is_mark b ≡ true → is_ascii_digit b ≡ false
mark_not_digit b e = mark_is (λ c. is_ascii_digit c ≡ false) b e (refl, (refl, (refl, (refl, (refl, (refl, (refl, (refl, (refl, tt)))))))))
