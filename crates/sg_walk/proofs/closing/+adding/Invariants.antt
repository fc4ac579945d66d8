-- One field fewer is left.
use Rattle.std.proofs.Common.{◌+◌, ◌*◌}
use Rattle.sg_walk.proofs.closing.+adding.Given as goal

abbrev pub decreases-add_on : goal.decreases-add_on
decreases-add_on l = 2 * l.count + 1

abbrev pub decreases-add_with : goal.decreases-add_with
decreases-add_with l = 2 * l.count
