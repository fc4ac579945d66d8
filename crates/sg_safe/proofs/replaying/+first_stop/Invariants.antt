-- Each call has fewer left.
use Rattle.std.proofs.Common.{length}
use Rattle.sg_safe.proofs.replaying.+first_stop.Given as goal

abbrev pub decreases-first_stop : goal.decreases-first_stop
decreases-first_stop l = length l.rules.now
