-- Each call has fewer left.
use Rattle.std.proofs.Common.{length}
use Rattle.sg_safe.proofs.waiting.+first_overtaken.Given as goal

abbrev pub decreases-first_overtaken : goal.decreases-first_overtaken
decreases-first_overtaken l = length l.funs.now
