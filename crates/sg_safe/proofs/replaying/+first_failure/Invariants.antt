-- Each call has fewer left.
use Rattle.std.proofs.Common.{length}
use Rattle.sg_safe.proofs.replaying.+first_failure.Given as goal

abbrev pub decreases-first_failure : goal.decreases-first_failure
decreases-first_failure l = length l.funs.now
