-- One function fewer is left.
use Rattle.std.proofs.Common.{length}
use Rattle.sg_shape.proofs.making.+use_files.Given as goal

abbrev pub decreases-use_files : goal.decreases-use_files
decreases-use_files l = length l.funs.now
