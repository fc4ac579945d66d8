-- Each call has fewer left.
use Rattle.std.proofs.Common.{length}
use Rattle.sg_safe.proofs.counting.+steps_to.Given as goal

abbrev pub decreases-steps_to : goal.decreases-steps_to
decreases-steps_to l = length l.steps.now
