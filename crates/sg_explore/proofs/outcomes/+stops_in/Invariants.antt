-- The boots that are left.
use Rattle.std.proofs.Common.{length}
use Rattle.sg_explore.proofs.outcomes.+stops_in.Given as goal

abbrev pub decreases-stops_in : goal.decreases-stops_in
decreases-stops_in l = length l.boots.now
