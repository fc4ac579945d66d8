-- A script without a fault is counted, and the line of a fault stands before why.
use Rattle.std.proofs.Common.{Ok, Err, inr, subst}
use Rattle.sg_explain.specs.sg_input.sg_script.Reads.{IsReadingOf}
use Rattle.sg_explain.specs.sg_input.sg_script.declared.fault.ScriptError.TheVariants.{Fault}
use Rattle.sg_judge.proofs.OwnTelling.{bad_script, good_input}
use Rattle.sg_judge.proofs.explaining.explain_own_script.Goals as goal

pub returns-in_ok-told-in-Ok : goal.returns-in_ok-told-in-Ok
returns-in_ok-told-in-Ok c = λ services input texts.
    let made = c.in_ok-told-in-Ok.ensures in
    good_input services input c.args.text.now c.args.script.now c.args.tree.now c.args.accepted.now texts c.requires.own c.requires.accepted c.in_ok-told-in-Ok.told made.0 c.in-Ok.parsed
    (subst (λ i. IsReadingOf i c.args.script.now (Ok c.in-Ok.parsed)) c.interface.ensures.same c.in-Ok.ensures.answer) made.1 made.2

pub returns-in_ok-told-in-Err-Fault : goal.returns-in_ok-told-in-Err-Fault
returns-in_ok-told-in-Err-Fault c = λ services input texts.
    inr (bad_script services input c.args.text.now c.args.script.now c.args.tree.now c.args.accepted.now texts c.requires.own c.requires.accepted c.in_ok-told-in-Err-Fault.told c.in-Err-Fault.fault
    (subst (λ i. IsReadingOf i c.args.script.now (Err (Fault c.in-Err-Fault.fault))) c.interface.ensures.same
    (subst (λ e. IsReadingOf c.interface.result.now c.args.script.now (Err e)) c.in-Err-Fault.field-0-is c.in-Err-Fault.ensures.answer))
    c.in_ok-told-in-Err-Fault.ensures)
