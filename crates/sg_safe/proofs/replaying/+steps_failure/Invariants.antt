-- Each call has fewer left.
use Rattle.std.proofs.Common.{length}
use Rattle.sg_safe.proofs.replaying.+steps_failure.Given as goal

abbrev pub decreases-steps_failure : goal.decreases-steps_failure
decreases-steps_failure l = length l.steps.now
