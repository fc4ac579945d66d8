-- The elements of a list up to the last that meets a test.
use Rattle.std.proofs.Common.{◌≡◌, Bool, true, false, cond, List, [], ◌∷◌, ◌++◌, length, refl, ◌∙◌, ap, take}
use Rattle.std.specs.Prelude.{◌||◌}
use Rattle.std.specs.List.{list_any}
use Rattle.std.proofs.lemmas.List.Folds.{list_any-append}
use Rattle.sg_plain.specs.Promises.{up_to_last}

or_none : (b : Bool) → (b || false) ≡ b
or_none true = refl
or_none false = refl

or_so : (b : Bool) → (b || true) ≡ true
or_so true = refl
or_so false = refl

module _ {A : Type 0} (test : A → Bool) where
  none_left : (l : List A) → list_any test l ≡ false → up_to_last test l ≡ []
  none_left [] none = refl
  none_left (x ∷ l) none = ap (λ b. cond b (x ∷ up_to_last test l) []) none

  -- what comes after and meets it nowhere makes no difference
  pub up_to_front : (front more : List A) → list_any test more ≡ false → up_to_last test (front ++ more) ≡ up_to_last test front
  up_to_front [] more none = none_left more none
  up_to_front (x ∷ front) more none =
      ap (λ b. cond (test x || b) (x ∷ up_to_last test (front ++ more)) []) (list_any-append test front more ∙ ap (λ b. list_any test front || b) none ∙ or_none (list_any test front))
      ∙ ap (λ l. cond (test x || list_any test front) (x ∷ l) []) (up_to_front front more none)

  -- they are all where the last one meets it
  pub up_to_end : (front : List A) (last : A) → test last ≡ true → up_to_last test (front ++ last ∷ []) ≡ front ++ last ∷ []
  up_to_end [] last meets = ap (λ b. cond (b || false) (last ∷ []) []) meets
  up_to_end (x ∷ front) last meets =
      ap (λ b. cond (test x || b) (x ∷ up_to_last test (front ++ last ∷ [])) []) (list_any-append test front (last ∷ []) ∙ ap (λ b. list_any test front || (b || false)) meets ∙ or_so (list_any test front))
      ∙ ap (λ b. cond b (x ∷ up_to_last test (front ++ last ∷ [])) []) (or_so (test x)) ∙ ap (λ l. x ∷ l) (up_to_end front last meets)

  -- they are a front
  pub up_to_takes : (l rest : List A) → up_to_last test l ≡ take (length (up_to_last test l)) (l ++ rest)
  up_to_takes [] rest = refl
  up_to_takes (x ∷ l) rest = at (test x || list_any test l) (up_to_takes l rest)
    where
      at : (b : Bool) → up_to_last test l ≡ take (length (up_to_last test l)) (l ++ rest)
          → cond b (x ∷ up_to_last test l) [] ≡ take (length (cond b (x ∷ up_to_last test l) [])) (x ∷ l ++ rest)
      at true more = ap (λ ys. x ∷ ys) more
      at false more = refl
