-- Each call has fewer left.
use Rattle.std.proofs.Common.{length}
use Rattle.sg_safe.proofs.replaying.+add_bounds.Given as goal

abbrev pub decreases-add_bounds : goal.decreases-add_bounds
decreases-add_bounds l = length l.marks.now
