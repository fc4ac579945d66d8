-- The run of an interface that is accepted.
use Rattle.std.proofs.Common.{map, subst}
use Rattle.std.proofs.lemmas.Result.{IfOk-weaker}
use Rattle.sg_explain.specs.sg_facts.Facts.{facts_of}
use Rattle.sg_explain.specs.sg_input.Inputs.{most_run}
use Rattle.sg_judge.specs.AnyInputs.{IsAnyRunInputOf}
use Rattle.sg_judge.specs.Inside.Examined.{AreAnyParts}
use Rattle.sg_judge.proofs.inputs.run_input_of.Goals as goal

pub returns-in-Ready-clause-input : goal.returns-in-Ready-clause-input
returns-in-Ready-clause-input c =
    let services = map facts_of c.args.shapes.now in
    let parts = subst (AreAnyParts most_run services c.args.input.now) c.in-Ready.is c.in_ok-any.ensures in
    IfOk-weaker c.with_run.result _ (IsAnyRunInputOf services c.args.input.now) (λ made h. h c.args.input.now parts.0 parts.1 parts.2) c.with_run.ensures.input
