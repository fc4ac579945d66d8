-- One member fewer is left.
use Rattle.std.proofs.Common.{length}
use Rattle.sg_script.proofs.names.+member_from.Given as goal

abbrev pub decreases-member_from : goal.decreases-member_from
decreases-member_from l = length l.members.now
