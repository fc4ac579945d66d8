-- One function fewer is left.
use Rattle.std.proofs.Common.{length}
use Rattle.sg_shape.proofs.forbidden.+take_no_parents.Given as goal

abbrev pub decreases-take_no_parents : goal.decreases-take_no_parents
decreases-take_no_parents l = length l.funs.now
