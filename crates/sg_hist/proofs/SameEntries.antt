-- Entries are compared one by one.
use Rattle.std.proofs.Common.{◌≡◌, ℕ, ◌+◌, List, [], ◌∷◌, ◌++◌, Some, sym, ◌∙◌, ap, take}
use Rattle.std.specs.Prelude.{slice_get}
use Rattle.sg_facts.proofs.Places.{take_next}
use Rattle.sg_facts.specs.declared.entry.Entry.{Entry}

-- one more is the same
pub same_next : (xs ys : List Entry) (at : ℕ) (x y : Entry) → slice_get xs at ≡ Some x → slice_get ys at ≡ Some y → x ≡ y → take at xs ≡ take at ys → take (at + 1) xs ≡ take (at + 1) ys
same_next xs ys at x y one other is before =
    take_next xs at x one ∙ ap (λ l. l ++ x ∷ []) before ∙ ap (λ z. take at ys ++ z ∷ []) is ∙ sym (take_next ys at y other)

-- what stands at a place of the same entries is the same
pub same_at : (xs ys : List Entry) (at : ℕ) (x y : Entry) → slice_get xs at ≡ Some x → slice_get ys at ≡ Some y → xs ≡ ys → x ≡ y
same_at xs ys at x y one other is =
    let both : Some x ≡ Some y = sym one ∙ ap (λ l. slice_get l at) is ∙ other in
    cc both
