-- The script of an interface that is accepted.
use Rattle.std.proofs.Common.{map, subst}
use Rattle.std.proofs.lemmas.Result.{IfOk-weaker}
use Rattle.sg_facts.specs.Facts.{facts_of}
use Rattle.sg_input.specs.Inputs.{IsInputOf, judged_by, most_script}
use Rattle.sg_input.specs.Inside.Parted.{AreInputParts}
use Rattle.sg_input.proofs.reading.input_of.Goals as goal

pub returns-in-Ready : goal.returns-in-Ready
returns-in-Ready c =
    let services = map facts_of c.args.shapes.now in
    let front = subst (AreInputParts most_script services c.args.input.now) c.in-Ready.is c.in_ok-accepted.ensures in
    IfOk-weaker c.with_script.result _ (IsInputOf (judged_by services) c.args.input.now)
    (λ made h. h c.args.input.now front.0 services front.1 front.2) c.with_script.ensures
