-- The interfaces so far are those of the members so far.
use Rattle.std.proofs.Common.{take}
use Rattle.sg_top.specs.Inside.Several.{AreMembersOf}
use Rattle.sg_top.proofs.members.members_of.Given as goal

abbrev pub invariant-interfaces : goal.invariant-interfaces
invariant-interfaces l = AreMembersOf (take l.any-index l.interfaces) l.members
