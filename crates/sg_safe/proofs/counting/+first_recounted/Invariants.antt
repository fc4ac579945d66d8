-- Each call has fewer left.
use Rattle.std.proofs.Common.{length}
use Rattle.sg_safe.proofs.counting.+first_recounted.Given as goal

abbrev pub decreases-first_recounted : goal.decreases-first_recounted
decreases-first_recounted l = length l.funs.now
