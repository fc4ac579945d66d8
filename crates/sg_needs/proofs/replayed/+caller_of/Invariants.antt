-- The effects that are left.
use Rattle.std.proofs.Common.{length}
use Rattle.sg_needs.proofs.replayed.+caller_of.Given as goal

abbrev pub decreases-caller_of : goal.decreases-caller_of
decreases-caller_of l = length l.effects.now
