-- Each call has fewer left.
use Rattle.std.proofs.Common.{length}
use Rattle.sg_safe.proofs.counting.+first_added.Given as goal

abbrev pub decreases-first_added : goal.decreases-first_added
decreases-first_added l = length l.effects.now
