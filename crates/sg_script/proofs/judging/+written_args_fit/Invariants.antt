-- One parameter fewer is left.
use Rattle.std.proofs.Common.{length}
use Rattle.sg_script.proofs.judging.+written_args_fit.Given as goal

abbrev pub decreases-written_args_fit : goal.decreases-written_args_fit
decreases-written_args_fit l = length l.kinds.now
