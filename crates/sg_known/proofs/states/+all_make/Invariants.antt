-- Each call has fewer left.
use Rattle.std.proofs.Common.{length}
use Rattle.sg_known.proofs.states.+all_make.Given as goal

abbrev pub decreases-all_make : goal.decreases-all_make
decreases-all_make l = length l.funs.now
