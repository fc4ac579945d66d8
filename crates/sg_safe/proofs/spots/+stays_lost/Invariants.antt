-- Each call has fewer left.
use Rattle.std.proofs.Common.{length}
use Rattle.sg_safe.proofs.spots.+stays_lost.Given as goal

abbrev pub decreases-stays_lost : goal.decreases-stays_lost
decreases-stays_lost l = length l.steps.now
