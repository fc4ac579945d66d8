-- Each call has fewer left.
use Rattle.std.proofs.Common.{length}
use Rattle.sg_safe.proofs.waiting.+never.Given as goal

abbrev pub decreases-never : goal.decreases-never
decreases-never l = length l.pairs.now
