-- Each call has fewer left.
use Rattle.std.proofs.Common.{length}
use Rattle.sg_known.proofs.states.+settled.Given as goal

abbrev pub decreases-settled : goal.decreases-settled
decreases-settled l = length l.states
