-- The interfaces so far are those of the members so far.
use Rattle.std.proofs.Common.{◌≡◌, take}
use Rattle.sg_judge.specs.AnyInputs.{interfaces_of}
use Rattle.sg_judge.proofs.members.interfaces_of.Given as goal

abbrev pub invariant-members : goal.invariant-members
invariant-members l = l.list ≡ interfaces_of (take l.member-index l.members)
