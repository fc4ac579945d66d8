-- Each call has fewer left.
use Rattle.std.proofs.Common.{length}
use Rattle.sg_safe.proofs.spots.+add_begins.Given as goal

abbrev pub decreases-add_begins : goal.decreases-add_begins
decreases-add_begins l = length l.funs.now
