-- One function fewer is left.
use Rattle.std.proofs.Common.{length}
use Rattle.sg_check_statements.proofs.services.+makes_some.Given as goal

abbrev pub decreases-makes_some : goal.decreases-makes_some
decreases-makes_some l = length l.funs.now
