-- One kind more is clear, or the first fault of that kind is the first of all.
use Rattle.sg_check_statements.specs.declared.fault.CheckKind.TheVariants.{Unreached}
use Rattle.sg_check.specs.Inside.Candidates.{HasReach}
use Rattle.sg_check.proofs.Stages.{on_ok, stage, unreached_told}
use Rattle.sg_check.proofs.checking.funs_reached.Goals as goal

pub returns-clause-stage : goal.returns-clause-stage
returns-clause-stage c services good =
    let candidate = c.args.candidate.now in
    stage services c.args.tree.now candidate Unreached c.first_proto_in-fault.result good
    (unreached_told services c.args.tree.now candidate c.in_ok-unreached.unreached c.first_proto_in-fault.result c.as_slice-2.result.now c.as_slice-2.ensures c.first_proto_in-fault.ensures
    good c.in_ok-unreached.ensures) c.unless.result c.unless.ensures

pub returns-clause-known : goal.returns-clause-known
returns-clause-known c = on_ok (HasReach c.args.candidate.now.iface) c.unless.result c.in_ok-unreached.ensures.known
