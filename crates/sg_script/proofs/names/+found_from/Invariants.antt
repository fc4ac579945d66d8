-- One member fewer is left.
use Rattle.std.proofs.Common.{length}
use Rattle.sg_script.proofs.names.+found_from.Given as goal

abbrev pub decreases-found_from : goal.decreases-found_from
decreases-found_from l = length l.members.now
