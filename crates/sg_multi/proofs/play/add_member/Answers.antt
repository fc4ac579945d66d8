-- The points ascend, as those of the script.
use Rattle.std.proofs.Common.{subst, sym}
use Rattle.sg_multi.specs.sg_edge.Stops.{AscendsAbove}
use Rattle.sg_multi.proofs.play.add_member.Goals as goal

pub new-stops-requires : goal.new-stops-requires
new-stops-requires g c = subst (AscendsAbove 0) (sym c.in_ok-points.ensures) c.requires.ascend
