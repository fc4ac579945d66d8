-- The first kind, or else the second.
use Rattle.std.proofs.Common.{sym, subst}
use Rattle.sg_known.specs.sg_described.Described.{described_of}
use Rattle.sg_safe.specs.Inside.Stages.{IsFound}
use Rattle.sg_safe.specs.Reasons.{counts_far, first_from, recounts}
use Rattle.sg_safe.proofs.Reasoning.{bare_first, far_bare, found_bare, found_second, recounts_bare}
use Rattle.sg_safe.proofs.check.miscounted.Goals as goal

pub returns-in-Some : goal.returns-in-Some
returns-in-Some c =
    let d = described_of c.args.description.now in
    bare_first d (first_from (counts_far d) 0 d.most) (first_from (recounts d) 1 d.facts.funs) c.in-Some.reason (sym c.in-Some.ensures) (far_bare d c.in-Some.reason (sym c.in-Some.ensures))

pub returns-in-None : goal.returns-in-None
returns-in-None c =
    let d = described_of c.args.description.now in
    let later = first_from (recounts d) 1 d.facts.funs in
    found_second d (first_from (counts_far d) 0 d.most) later c.first_recounted.result (sym c.in-None.ensures)
    (subst (λ o. IsFound d later o) (sym c.first_recounted.ensures) (found_bare d later (recounts_bare d)))
