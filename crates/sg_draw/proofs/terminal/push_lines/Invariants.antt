-- The first rows have lines.
use Rattle.std.proofs.Common.{◌≡◌, length, take}
use Rattle.sg_draw.specs.Pictures.{marks_width}
use Rattle.sg_draw.specs.Inside.Columns.{Prints}
use Rattle.sg_draw.specs.Inside.Rows.{labels_in}
use Rattle.sg_draw.proofs.terminal.push_lines.Given as goal

abbrev pub invariant-rows : goal.invariant-rows
invariant-rows l = record {
  shown : Prints (marks_width (length l.initial.lanes)) l.initial.out l.out (labels_in (take l.at l.rows));
  same_lanes : length l.lanes ≡ length l.initial.lanes;
}
