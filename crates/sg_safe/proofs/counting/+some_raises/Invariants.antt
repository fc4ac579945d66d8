-- Each call has fewer left.
use Rattle.std.proofs.Common.{length}
use Rattle.sg_safe.proofs.counting.+some_raises.Given as goal

abbrev pub decreases-some_raises : goal.decreases-some_raises
decreases-some_raises l = length l.effects.now
