-- Each call has fewer left.
use Rattle.std.proofs.Common.{length}
use Rattle.sg_interpret.proofs.effects.+do_effects.Given as goal

abbrev pub decreases-do_effects : goal.decreases-do_effects
decreases-do_effects l = length l.effects.now
