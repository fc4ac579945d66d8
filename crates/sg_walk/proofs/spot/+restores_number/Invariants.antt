use Rattle.std.proofs.Common.{length}
use Rattle.sg_walk.proofs.spot.+restores_number.Given as goal

abbrev pub decreases-restores_number : goal.decreases-restores_number
decreases-restores_number l = length l.marks.now
