-- The effects that are left.
use Rattle.std.proofs.Common.{length}
use Rattle.sg_needs.proofs.replayed.+replayed_arg.Given as goal

abbrev pub decreases-replayed_arg : goal.decreases-replayed_arg
decreases-replayed_arg l = length l.effects.now
