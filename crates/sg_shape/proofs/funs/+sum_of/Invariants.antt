-- One flag fewer is left.
use Rattle.std.proofs.Common.{length}
use Rattle.sg_shape.proofs.funs.+sum_of.Given as goal

abbrev pub decreases-sum_of : goal.decreases-sum_of
decreases-sum_of l = length l.flags.now
