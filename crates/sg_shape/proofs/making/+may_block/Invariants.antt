-- One function fewer is left.
use Rattle.std.proofs.Common.{length}
use Rattle.sg_shape.proofs.making.+may_block.Given as goal

abbrev pub decreases-may_block : goal.decreases-may_block
decreases-may_block l = length l.funs.now
