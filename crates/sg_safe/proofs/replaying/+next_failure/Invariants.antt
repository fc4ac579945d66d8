-- Each call has fewer left.
use Rattle.std.proofs.Common.{length}
use Rattle.sg_safe.proofs.replaying.+next_failure.Given as goal

abbrev pub decreases-next_failure : goal.decreases-next_failure
decreases-next_failure l = length l.reached.now
