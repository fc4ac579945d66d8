-- Each call has fewer left.
use Rattle.std.proofs.Common.{length}
use Rattle.sg_safe.proofs.counting.+any_raises.Given as goal

abbrev pub decreases-any_raises : goal.decreases-any_raises
decreases-any_raises l = length l.funs.now
