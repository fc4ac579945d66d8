-- One parameter fewer is left.
use Rattle.std.proofs.Common.{length}
use Rattle.sg_print.proofs.funs.+param_number.Given as goal

abbrev pub decreases-param_number : goal.decreases-param_number
decreases-param_number l = length l.kinds.now
