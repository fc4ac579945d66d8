-- Each call has fewer left.
use Rattle.std.proofs.Common.{length}
use Rattle.sg_safe.proofs.spots.+add_nexts.Given as goal

abbrev pub decreases-add_nexts : goal.decreases-add_nexts
decreases-add_nexts l = length l.from.now
