-- The first lanes are written.
use Rattle.std.proofs.Common.{◌*◌}
use Rattle.sg_draw.specs.Inside.Columns.{AddsMarks}
use Rattle.sg_draw.proofs.cells.push_cells.Given as goal

abbrev pub invariant-lanes : goal.invariant-lanes
invariant-lanes l = AddsMarks (5 * l.at) l.initial.out l.out
