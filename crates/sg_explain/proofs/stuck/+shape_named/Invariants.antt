-- One shape fewer is left.
use Rattle.std.proofs.Common.{length}
use Rattle.sg_explain.proofs.stuck.+shape_named.Given as goal

abbrev pub decreases-shape_named : goal.decreases-shape_named
decreases-shape_named l = length l.shapes.now
