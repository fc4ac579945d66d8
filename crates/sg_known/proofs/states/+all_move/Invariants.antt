-- Each call has fewer left.
use Rattle.std.proofs.Common.{length}
use Rattle.sg_known.proofs.states.+all_move.Given as goal

abbrev pub decreases-all_move : goal.decreases-all_move
decreases-all_move l = length l.pairs.now
