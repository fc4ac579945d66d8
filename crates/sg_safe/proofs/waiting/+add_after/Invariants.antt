-- Each call has fewer left.
use Rattle.std.proofs.Common.{length}
use Rattle.sg_safe.proofs.waiting.+add_after.Given as goal

abbrev pub decreases-add_after : goal.decreases-add_after
decreases-add_after l = length l.fields.now
