-- Each call has fewer left.
use Rattle.std.proofs.Common.{length}
use Rattle.sg_known.proofs.states.+add_kept.Given as goal

abbrev pub decreases-add_kept : goal.decreases-add_kept
decreases-add_kept l = length l.some.now
