-- Each call has fewer left.
use Rattle.std.proofs.Common.{length}
use Rattle.sg_known.proofs.states.+all_stay.Given as goal

abbrev pub decreases-all_stay : goal.decreases-all_stay
decreases-all_stay l = length l.pairs.now
