-- None so far is of the interface's service.
use Rattle.std.proofs.Common.{◌≡◌, drop}
use Rattle.sg_explain.specs.sg_input.MultiInputs.{has_service}
use Rattle.sg_judge.specs.AnyInputs.{interfaces_of}
use Rattle.sg_judge.proofs.members.has_service.Given as goal

abbrev pub invariant-members : goal.invariant-members
invariant-members l = has_service (interfaces_of (drop l.member-index l.members)) l.iface ≡ has_service (interfaces_of l.members) l.iface
