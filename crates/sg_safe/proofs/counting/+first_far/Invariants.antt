-- Each call has fewer left.
use Rattle.std.proofs.Common.{length}
use Rattle.sg_safe.proofs.counting.+first_far.Given as goal

abbrev pub decreases-first_far : goal.decreases-first_far
decreases-first_far l = length l.most.now
