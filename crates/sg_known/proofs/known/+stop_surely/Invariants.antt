-- Each call has fewer left.
use Rattle.std.proofs.Common.{length}
use Rattle.sg_known.proofs.known.+stop_surely.Given as goal

abbrev pub decreases-stop_surely : goal.decreases-stop_surely
decreases-stop_surely l = length l.rules.now
