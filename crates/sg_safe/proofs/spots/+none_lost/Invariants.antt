-- Each call has fewer left.
use Rattle.std.proofs.Common.{length}
use Rattle.sg_safe.proofs.spots.+none_lost.Given as goal

abbrev pub decreases-none_lost : goal.decreases-none_lost
decreases-none_lost l = length l.marks.now
