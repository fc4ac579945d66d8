-- What is found at a place of a list.
use Rattle.std.proofs.Common.{◌≡◌, ℕ, zero, suc, ◌+◌, ◌≤◌, List, [], ◌∷◌, ◌++◌, None, Some, length, ◌∙◌, ap, take, arith}
use Rattle.std.proofs.lemmas.List.{take_more}
use Rattle.std.proofs.lemmas.Option.{get_or_from_slice_get, slice_get_within}
use Rattle.std.specs.Prelude.{slice_get}

-- nothing is found only after the end
pub none_past : {A : Type 0} → (xs : List A) (at : ℕ) → slice_get xs at ≡ None → length xs ≤ at
none_past [] at none = omega arith
none_past (x ∷ xs) zero none = cc none
none_past (x ∷ xs) (suc at) none = let rest = none_past xs at none in omega (arith, rest)

-- the first elements with what is found after them
pub take_next : {A : Type 0} → (xs : List A) (at : ℕ) (x : A) → slice_get xs at ≡ Some x → take (at + 1) xs ≡ take at xs ++ x ∷ []
take_next xs at x found =
    take_more xs at x (slice_get_within xs at x found) ∙ ap (λ y. take at xs ++ y ∷ []) (get_or_from_slice_get xs at x x found)
