-- One function fewer is left.
use Rattle.std.proofs.Common.{length}
use Rattle.sg_check_statements.proofs.funs.+fun_number_from.Given as goal

abbrev pub decreases-fun_number_from : goal.decreases-fun_number_from
decreases-fun_number_from l = length l.funs.now
