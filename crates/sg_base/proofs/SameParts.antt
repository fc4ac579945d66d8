-- What is lent is compared part by part.
use Rattle.std.proofs.Common.{◌≡◌, ◌∙◌, ◌↔◌, IsTrue, ℕ, Bool, List, [], ◌∷◌, ap, map, refl, sym}
use Rattle.std.proofs.lemmas.Bool.Decides.{Decides-eqb, Decides-like}
use Rattle.std.specs.Bool.{Decides}
use Rattle.std.specs.Cmp.Lexicographic.{bytes_decides, pointwise, pointwise_decides}
use Rattle.std.specs.Str.{bytes_eq}
use Rattle.sg_base.specs.contracts.value.ValuePartialEq.TheImpl.{eq-value as value-eq}
use Rattle.sg_base.specs.declared.value.Value.{Value}
use Rattle.sg_base.specs.declared.value.Value.TheVariants.{Word, Text}
use Rattle.sg_base.specs.Records.{word_of}

-- values: numbers or texts
value_same : (x y : Value) → Decides (value-eq.it x y) (x ≡ y)
value_same (Word m) (Word n) = Decides-like (value-eq.it (Word m) (Word n)) (ap Word) (λ e. cc) (Decides-eqb m n)
value_same (Word m) (Text t) = (λ e. absurd (cc e), λ e. absurd (cc e))
value_same (Text s) (Word n) = (λ e. absurd (cc e), λ e. absurd (cc e))
value_same (Text s) (Text t) = Decides-like (value-eq.it (Text s) (Text t)) (ap Text) (λ e. cc) (bytes_decides s t)

-- a test of lists of values tells whether they are the same
pub values_tell : (xs ys : List Value) (r : Bool) → r ≡ pointwise value-eq.it xs ys → IsTrue r ↔ (xs ≡ ys)
values_tell xs ys r is = let d = pointwise_decides value_same xs ys in (λ h. d.0 (sym is ∙ h), λ e. is ∙ d.1 e)

-- the words of values that are words
pub word_back : (xs : List ℕ) → map word_of (map Word xs) ≡ xs
word_back [] = refl
word_back (x ∷ xs) = ap (λ l. x ∷ l) (word_back xs)

-- words are the same where they are as values
words_same : (xs ys : List ℕ) → map Word xs ≡ map Word ys → xs ≡ ys
words_same xs ys e = sym (word_back xs) ∙ ap (map word_of) e ∙ word_back ys

-- a test of words tells whether they are the same as values
pub words_tell : (xs ys : List ℕ) (r : Bool) → r ≡ bytes_eq xs ys → IsTrue r ↔ (map Word xs ≡ map Word ys)
words_tell xs ys r is = let d = bytes_decides xs ys in (λ h. ap (map Word) (d.0 (sym is ∙ h)), λ e. is ∙ d.1 (words_same xs ys e))
