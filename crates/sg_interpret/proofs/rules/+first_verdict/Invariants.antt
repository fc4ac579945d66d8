-- Each call has fewer left.
use Rattle.std.proofs.Common.{length}
use Rattle.sg_interpret.proofs.rules.+first_verdict.Given as goal

abbrev pub decreases-first_verdict : goal.decreases-first_verdict
decreases-first_verdict l = length l.rules.now
