-- Each call has fewer left.
use Rattle.std.proofs.Common.{length}
use Rattle.sg_safe.proofs.replaying.+first_past.Given as goal

abbrev pub decreases-first_past : goal.decreases-first_past
decreases-first_past l = length l.effects.now
