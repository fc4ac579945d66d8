-- The first lanes are empty.
use Rattle.std.proofs.Common.{◌*◌}
use Rattle.sg_draw.specs.Inside.Columns.{IsMarks}
use Rattle.sg_draw.proofs.cells.sample_marks.Given as goal

abbrev pub invariant-lanes : goal.invariant-lanes
invariant-lanes l = IsMarks (5 * l.index) l.out
