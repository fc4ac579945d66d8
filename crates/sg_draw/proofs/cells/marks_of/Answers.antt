-- The lanes of the clients, and that of the service.
use Rattle.std.proofs.Common.{length, refl, ap, arith}
use Rattle.sg_draw.proofs.Lines.{marks_added, marks_both, marks_of_width, no_marks}
use Rattle.sg_draw.proofs.cells.marks_of.Goals as goal

pub returns-clause-marks : goal.returns-clause-marks
returns-clause-marks c =
    let lanes = ap length c.as_slice-2.ensures in
    marks_of_width (omega (arith, lanes)) c.in_ok-extend_from_slice.ensures.ok
    (marks_both (marks_added refl (marks_of_width refl c.new-out.ensures no_marks) c.in_ok-push_cells.ensures) c.service_text.ensures)
