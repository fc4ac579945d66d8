-- Each call has fewer left.
use Rattle.std.proofs.Common.{length}
use Rattle.sg_safe.proofs.spots.+some_sets_back.Given as goal

abbrev pub decreases-some_sets_back : goal.decreases-some_sets_back
decreases-some_sets_back l = length l.effects.now
