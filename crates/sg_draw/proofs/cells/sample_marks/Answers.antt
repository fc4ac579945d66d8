-- A lane more is empty, and then the sample.
use Rattle.std.proofs.Common.{arith}
use Rattle.sg_draw.proofs.Lines.{marks_both, marks_of_width}
use Rattle.sg_draw.proofs.cells.sample_marks.Goals as goal

pub lanes-preserved : goal.lanes-preserved
lanes-preserved c = marks_of_width (omega arith) c.in_ok-extend_from_slice.ensures.ok (marks_both c.lanes.invariant c.cell_text.ensures)

pub returns : goal.returns
returns c = marks_of_width (omega arith) c.in_ok-extend_from_slice-2.ensures.ok (marks_both c.lanes.invariant c.sample_text.ensures)
