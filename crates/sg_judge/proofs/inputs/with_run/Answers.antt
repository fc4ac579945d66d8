-- The input is what its run is.
use Rattle.std.proofs.Common.{map, ap, subst}
use Rattle.sg_explain.specs.sg_facts.Facts.{facts_of}
use Rattle.sg_explain.specs.sg_input.Judged.{MayBeJudgedUnder, items_in}
use Rattle.sg_explain.specs.sg_input.declared.read.Read.TheVariants.{Ready}
use Rattle.sg_judge.proofs.AnyInputs.{run_ready, run_refused}
use Rattle.sg_judge.proofs.inputs.with_run.Goals as goal

pub returns-in-Ready-clause-input : goal.returns-in-Ready-clause-input
returns-in-Ready-clause-input c = λ input interface texts served.
    run_ready (map facts_of c.args.shapes.now) input interface c.args.run.now c.args.any c.interface.result.now c.interface.ensures.same served (items_in c.in_ok-history.field-0)
    c.in-Ready.history.items texts c.in_ok-history.ensures.history (ap items_in c.in-Ready.is)

pub returns-in-Refused-clause-input : goal.returns-in-Refused-clause-input
returns-in-Refused-clause-input c = λ input interface texts served.
    run_refused (map facts_of c.args.shapes.now) input interface c.args.run.now c.args.any c.interface.result.now c.interface.ensures.same served (items_in c.in_ok-history.field-0)
    c.in-Refused.line texts c.in_ok-history.ensures.history (ap items_in c.in-Refused.is)

pub returns-in-Ready-clause-may : goal.returns-in-Ready-clause-may
returns-in-Ready-clause-may c =
    subst (λ i. MayBeJudgedUnder i (Ready c.in-Ready.history)) c.interface.ensures.same (subst (MayBeJudgedUnder c.interface.result.now) c.in-Ready.is c.in_ok-history.ensures.may)
