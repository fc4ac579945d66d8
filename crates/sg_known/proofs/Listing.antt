-- The states of a field among those of all.
use Rattle.std.proofs.Common.{◌≡◌, ℕ, zero, suc, ◌+◌, ◌<◌, List, [], ◌∷◌, length, Some, ◌∙◌, ap, arith}
use Rattle.std.specs.Prelude.{slice_get}
use Rattle.sg_described.specs.sg_facts.Facts.{Facts, Field}
use Rattle.sg_described.specs.NeverZero.{never_zero}
use Rattle.sg_known.specs.Surveys.{never_zero_from}

listed_from : (facts : Facts) (from : ℕ) (fields : List Field) (k : ℕ) → k < length fields → slice_get (never_zero_from facts from fields) k ≡ Some (never_zero facts (from + k))
listed_from facts from [] k low = absurd (omega (arith, low))
listed_from facts from (f ∷ fields) zero low = let same : from ≡ from + 0 = omega arith in ap (λ x. Some (never_zero facts x)) same
listed_from facts from (f ∷ fields) (suc k) low =
    let same : suc from + k ≡ from + suc k = omega arith in
    listed_from facts (suc from) fields k (omega (arith, low)) ∙ ap (λ x. Some (never_zero facts x)) same

pub listed_at : (facts : Facts) (fields : List Field) (k : ℕ) → k < length fields → slice_get (never_zero_from facts 0 fields) k ≡ Some (never_zero facts k)
listed_at facts fields k low = let same : 0 + k ≡ k = omega arith in listed_from facts 0 fields k low ∙ ap (λ x. Some (never_zero facts x)) same
