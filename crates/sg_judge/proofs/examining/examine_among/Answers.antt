-- It is accepted, or something is wrong with it.
use Rattle.std.proofs.Common.{map, subst}
use Rattle.sg_explain.specs.sg_facts.Facts.{facts_of}
use Rattle.sg_explain.specs.sg_input.Verdicts.{services_for}
use Rattle.sg_own.specs.sg_check_statements.Stages.{IsFirstFault}
use Rattle.sg_judge.proofs.examining.examine_among.Goals as goal

pub returns-in-Ok : goal.returns-in-Ok
returns-in-Ok c = λ text parses none.
    ((none, (c.args.tree.now, parses, c.in-Ok.ensures.answer)), (c.args.tree.now, parses, c.service_place.ensures))

pub returns-in-Err-Fault : goal.returns-in-Err-Fault
returns-in-Err-Fault c = λ text parses none.
    let services = map facts_of c.args.shapes.now in
    let tree = c.args.tree.now in
    c.flawed.ensures services text none (tree, parses, subst (IsFirstFault (services_for services tree) tree) c.in-Err-Fault.field-0-is c.in-Err-Fault.ensures.answer)
