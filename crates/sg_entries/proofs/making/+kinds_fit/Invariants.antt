-- One parameter fewer is left.
use Rattle.std.proofs.Common.{length}
use Rattle.sg_entries.proofs.making.+kinds_fit.Given as goal

abbrev pub decreases-kinds_fit : goal.decreases-kinds_fit
decreases-kinds_fit l = length l.kinds.now
