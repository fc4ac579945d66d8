-- Each call has fewer left.
use Rattle.std.proofs.Common.{length}
use Rattle.sg_safe.proofs.waiting.+keeps.Given as goal

abbrev pub decreases-keeps : goal.decreases-keeps
decreases-keeps l = length l.pairs.now
