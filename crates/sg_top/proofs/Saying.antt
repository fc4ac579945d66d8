-- What is said of a text is its output.
use Rattle.std.proofs.Common.{ℕ, List, inl, inr, sym, subst}
use Rattle.sg_judge.specs.sg_input.declared.read.Read.{Read}
use Rattle.sg_judge.specs.sg_input.declared.read.Read.TheVariants.{Ready as ready, Refused as refused}
use Rattle.sg_top.specs.Answer.{IsOfText}
use Rattle.sg_top.specs.Inside.Delivery.{IsSaid}
use Rattle.sg_top.specs.declared.status.Status.{Status}

pub of_text : (Is : Read (List ℕ) → Type 0) (said : Read (List ℕ)) (status : Status) (output : List ℕ) → IsSaid said status output → Is said → IsOfText Is status output
of_text Is (ready text) status output (done, same) is = inl (done, subst (λ t. Is (ready t)) (sym same) is)
of_text Is (refused line) status output (two, same) is = inr (two, subst (λ t. Is (refused t)) (sym same) is)
