-- Each call has fewer left.
use Rattle.std.proofs.Common.{length}
use Rattle.sg_safe.proofs.waiting.+passed_by.Given as goal

abbrev pub decreases-passed_by : goal.decreases-passed_by
decreases-passed_by l = length l.funs.now
