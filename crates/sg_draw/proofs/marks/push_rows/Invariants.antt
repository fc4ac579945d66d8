-- The first rows are drawn.
use Rattle.std.proofs.Common.{take}
use Rattle.sg_draw.specs.Inside.Drawing.{Draws}
use Rattle.sg_draw.specs.Inside.Rows.{labels_in}
use Rattle.sg_draw.proofs.marks.push_rows.Given as goal

abbrev pub invariant-rows : goal.invariant-rows
invariant-rows l = Draws l.initial.out l.out (labels_in (take l.at l.rows))
