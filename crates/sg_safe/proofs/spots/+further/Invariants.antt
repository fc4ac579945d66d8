-- Each call has fewer left.
use Rattle.std.proofs.Common.{◌-◌}
use Rattle.sg_safe.proofs.spots.+further.Given as goal

abbrev pub decreases-further : goal.decreases-further
decreases-further l = 7 - l.calls
