-- Each call has fewer left.
use Rattle.std.proofs.Common.{length}
use Rattle.sg_known.proofs.lasting.+touches.Given as goal

abbrev pub decreases-touches : goal.decreases-touches
decreases-touches l = length l.effects.now
