-- Each call has fewer left.
use Rattle.std.proofs.Common.{length}
use Rattle.sg_safe.proofs.replaying.+add_known.Given as goal

abbrev pub decreases-add_known : goal.decreases-add_known
decreases-add_known l = length l.marks.now
