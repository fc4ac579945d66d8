-- Each call has fewer left.
use Rattle.std.proofs.Common.{length}
use Rattle.sg_known.proofs.states.+add_states.Given as goal

abbrev pub decreases-add_states : goal.decreases-add_states
decreases-add_states l = length l.funs.now
