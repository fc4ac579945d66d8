-- It is accepted with what it describes, or something is wrong with it.
use Rattle.std.proofs.Common.{inl, subst}
use Rattle.sg_own.specs.OwnErrors.{IsOwnError, IsToldFault}
use Rattle.sg_judge.proofs.examining.examine_own.Goals as goal

pub returns-in-Ok : goal.returns-in-Ok
returns-in-Ok c = λ services text own.
    ((c.args.tree.now, own, c.in-Ok.ensures.answer.accepted, c.in-Ok.ensures.answer.describes), (c.args.tree.now, own.parses, c.service_place.ensures))

pub returns-in-Err-Fault : goal.returns-in-Err-Fault
returns-in-Err-Fault c = λ services text own.
    let told : IsToldFault c.args.tree.now c.in-Err-Fault.fault = subst (IsOwnError c.args.tree.now) c.in-Err-Fault.field-0-is c.in-Err-Fault.ensures.answer in
    inl (c.args.tree.now, c.in-Err-Fault.fault.kind, own, told.first, c.own_name.ensures)
