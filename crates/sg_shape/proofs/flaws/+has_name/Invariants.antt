-- One prototype fewer is left.
use Rattle.std.proofs.Common.{length}
use Rattle.sg_shape.proofs.flaws.+has_name.Given as goal

abbrev pub decreases-has_name : goal.decreases-has_name
decreases-has_name l = length l.protos.now
