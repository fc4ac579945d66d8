-- One kind more is clear, or the first fault of that kind is the first of all.
use Rattle.sg_check_statements.specs.declared.fault.CheckKind.TheVariants.{NoWalk}
use Rattle.sg_check.specs.Inside.Candidates.{HasWalks}
use Rattle.sg_check.proofs.Seeking.{walks_known}
use Rattle.sg_check.proofs.Stages.{on_ok, stage, stuck_told}
use Rattle.sg_check.proofs.checking.walks_fit.Goals as goal

pub returns-clause-stage : goal.returns-clause-stage
returns-clause-stage c services good =
    let candidate = c.args.candidate.now in
    stage services c.args.tree.now candidate NoWalk c.first_proto_in-fault.result good
    (stuck_told services c.args.tree.now candidate c.in_ok-stuck.stuck c.first_proto_in-fault.result c.as_slice-2.result.now c.as_slice-2.ensures c.first_proto_in-fault.ensures
    good c.in_ok-stuck.ensures) c.unless.result c.unless.ensures

pub returns-clause-known : goal.returns-clause-known
returns-clause-known c =
    on_ok (HasWalks c.args.candidate.now.iface) c.unless.result (walks_known c.args.candidate.now.iface c.in_ok-stuck.stuck c.in_ok-stuck.ensures)
