-- One prototype fewer is left.
use Rattle.std.proofs.Common.{length}
use Rattle.sg_shape.proofs.protos.+number_from.Given as goal

abbrev pub decreases-number_from : goal.decreases-number_from
decreases-number_from l = length l.protos.now
