-- Of a state without a walk a line is told besides, and of any other kind nothing.
use Rattle.std.proofs.Common.{map, subst}
use Rattle.sg_input.specs.sg_check_statements.Faults.{IsFault}
use Rattle.sg_input.specs.sg_facts.Facts.{facts_of}
use Rattle.sg_input.specs.declared.refusal.RefusalKind.TheVariants.{Check}
use Rattle.sg_input.specs.Verdicts.{services_for}
use Rattle.sg_explain.proofs.Refusing.{nothing_more, of_service, tells_alone, tells_stuck}
use Rattle.sg_explain.proofs.reasons.put_fault.Goals as goal

pub put_stuck-requires-clause-fault : goal.put_stuck-requires-clause-fault
put_stuck-requires-clause-fault c =
    let services = map facts_of c.args.shapes.now in
    of_service services c.args.tree.now c.args.fault.at
    (subst (λ k. IsFault (services_for services c.args.tree.now) c.args.tree.now k c.args.fault.at) c.in-NoWalk.is c.requires.fault)

pub returns-in-NoWalk : goal.returns-in-NoWalk
returns-in-NoWalk c =
    tells_stuck (map facts_of c.args.shapes.now) c.args.text.now c.put_stuck.result c.args.tree.now c.args.fault.kind c.args.fault.at c.refusal_words.result c.args.out.now c.put_why.new.out c.put_stuck.new.out
    c.in-NoWalk.is c.refusal_words.ensures c.requires.sentence c.requires.fault c.in_ok-put_why.ensures c.put_stuck.ensures

pub returns-in_default : goal.returns-in_default
returns-in_default c =
    let services = map facts_of c.args.shapes.now in
    tells_alone services c.args.text.now (Check c.args.fault.kind) c.args.fault.at c.refusal_words.result c.args.out.now c.put_why.new.out c.refusal_words.ensures
    (c.args.tree.now, c.requires.sentence, c.requires.fault) (nothing_more services c.args.text.now c.args.fault.kind c.args.fault.at c.in_default.not-NoWalk) c.in_ok-put_why.ensures
