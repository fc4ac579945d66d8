-- The input is what its run is.
use Rattle.std.proofs.Common.{map, ap, subst}
use Rattle.sg_facts.specs.Facts.{facts_of}
use Rattle.sg_input.specs.declared.read.Read.TheVariants.{Ready}
use Rattle.sg_input.specs.Inputs.{IsHistoryOf, judged_by, most_run}
use Rattle.sg_input.specs.Judged.{MayBeJudgedUnder, items_in}
use Rattle.sg_input.proofs.ReadAs.{read_as, refused_second}
use Rattle.sg_input.proofs.run_input.with_run.Goals as goal

pub returns-in-Ready-clause-input : goal.returns-in-Ready-clause-input
returns-in-Ready-clause-input c = λ input interface texts accepted.
    let services = map facts_of c.args.shapes.now in
    read_as most_run (IsHistoryOf services) (judged_by services) input interface c.args.run.now c.args.accepted c.interface.result.now (items_in c.in_ok-history.field-0) texts accepted
    c.interface.ensures.same c.in_ok-history.ensures.history c.in-Ready.history.items (ap items_in c.in-Ready.is)

pub returns-in-Refused-clause-input : goal.returns-in-Refused-clause-input
returns-in-Refused-clause-input c = λ input interface texts accepted.
    let services = map facts_of c.args.shapes.now in
    refused_second most_run (IsHistoryOf services) (judged_by services) input interface c.args.run.now c.args.accepted c.interface.result.now (items_in c.in_ok-history.field-0) texts accepted
    c.interface.ensures.same c.in_ok-history.ensures.history c.in-Refused.line (ap items_in c.in-Refused.is)

pub returns-in-Ready-clause-may : goal.returns-in-Ready-clause-may
returns-in-Ready-clause-may c =
    subst (λ i. MayBeJudgedUnder i (Ready c.in-Ready.history)) c.interface.ensures.same (subst (MayBeJudgedUnder c.interface.result.now) c.in-Ready.is c.in_ok-history.ensures.may)
