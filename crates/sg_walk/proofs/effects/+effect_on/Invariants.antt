-- One effect fewer is left.
use Rattle.std.proofs.Common.{length}
use Rattle.sg_walk.proofs.effects.+effect_on.Given as goal

abbrev pub decreases-effect_on : goal.decreases-effect_on
decreases-effect_on l = length l.effects.now
