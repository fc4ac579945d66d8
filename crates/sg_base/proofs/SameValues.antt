-- Words are the same where they are the same as values, and no test of values asks which of the two comes first.
use Rattle.std.proofs.Common.{◌≡◌, ◌∙◌, ℕ, Bool, true, false, List, [], ◌∷◌, ◌&&◌, nat_eq, ap, map, refl, sym}
use Rattle.std.specs.Cmp.{on_per, partial_equiv_from_equiv}
use Rattle.std.specs.Cmp.Lexicographic.{pointwise, lists_per, nat_list_eq_equiv}
use Rattle.sg_base.specs.Values.{same_value, value_code}
use Rattle.sg_base.specs.declared.value.Value.{Value}
use Rattle.sg_base.specs.declared.value.Value.TheVariants.{Word}

and_true : (b : Bool) → (b && true) ≡ b
and_true true = refl
and_true false = refl

pub words_same : (xs ys : List ℕ) → pointwise nat_eq xs ys ≡ pointwise same_value (map Word xs) (map Word ys)
words_same [] [] = refl
words_same [] (y ∷ ys) = refl
words_same (x ∷ xs) [] = refl
words_same (x ∷ xs) (y ∷ ys) =
    ap (λ b. b && pointwise nat_eq xs ys) (sym (and_true (nat_eq x y)))
    ∙ ap (λ b. same_value (Word x) (Word y) && b) (words_same xs ys)

pub either_way : (xs ys : List Value) → pointwise same_value xs ys ≡ pointwise same_value ys xs
either_way xs ys = (lists_per (on_per value_code (partial_equiv_from_equiv nat_list_eq_equiv))).symm xs ys
