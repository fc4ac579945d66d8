-- One parameter fewer is left.
use Rattle.std.proofs.Common.{length}
use Rattle.sg_shape.proofs.forbidden.+count_args.Given as goal

abbrev pub decreases-count_args : goal.decreases-count_args
decreases-count_args l = length l.kinds.now
