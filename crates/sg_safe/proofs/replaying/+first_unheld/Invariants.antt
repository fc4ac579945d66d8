-- Each call has fewer left.
use Rattle.std.proofs.Common.{length}
use Rattle.sg_safe.proofs.replaying.+first_unheld.Given as goal

abbrev pub decreases-first_unheld : goal.decreases-first_unheld
decreases-first_unheld l = length l.effects.now
