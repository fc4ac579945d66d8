-- The run of an interface that is accepted.
use Rattle.std.proofs.Common.{map, subst}
use Rattle.std.proofs.lemmas.Result.{IfOk-weaker}
use Rattle.sg_facts.specs.Facts.{facts_of}
use Rattle.sg_input.specs.Inputs.{IsRunInputOf, judged_by, most_run}
use Rattle.sg_input.specs.Inside.Parted.{AreInputParts}
use Rattle.sg_input.proofs.run_input.run_input_of.Goals as goal

pub returns-in-Ready-clause-input : goal.returns-in-Ready-clause-input
returns-in-Ready-clause-input c =
    let services = map facts_of c.args.shapes.now in
    let front = subst (AreInputParts most_run services c.args.input.now) c.in-Ready.is c.in_ok-accepted.ensures in
    IfOk-weaker c.with_run.result _ (IsRunInputOf (judged_by services) c.args.input.now)
    (λ made h. h c.args.input.now front.0 front.1 front.2) c.with_run.ensures.input
