-- Each call has fewer left.
use Rattle.std.proofs.Common.{length}
use Rattle.sg_known.proofs.known.+carrier.Given as goal

abbrev pub decreases-carrier : goal.decreases-carrier
decreases-carrier l = length l.effects.now
