-- One function fewer is left.
use Rattle.std.proofs.Common.{length}
use Rattle.sg_describe.proofs.flaws.+funs_flaw.Given as goal

abbrev pub decreases-funs_flaw : goal.decreases-funs_flaw
decreases-funs_flaw l = length l.funs.now
