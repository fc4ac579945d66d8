-- Each call has fewer left.
use Rattle.std.proofs.Common.{length}
use Rattle.sg_safe.proofs.waiting.+has.Given as goal

abbrev pub decreases-has : goal.decreases-has
decreases-has l = length l.pairs.now
