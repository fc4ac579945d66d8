-- The marks of the sample, and its words.
use Rattle.std.proofs.Common.{refl, length}
use Rattle.std.proofs.lemmas.Result.{on_ok_weaker}
use Rattle.sg_draw.specs.Pictures.{marks_width}
use Rattle.sg_draw.proofs.Lines.{marks_of_width, prints_line}
use Rattle.sg_draw.proofs.terminal.push_sample.Goals as goal

pub returns : goal.returns
returns c =
    on_ok_weaker _
    (prints_line (marks_width (length c.args.lanes.now)) c.args.out.now _ c.as_slice.result.now c.args.words.now (marks_of_width refl c.as_slice.ensures c.in_ok-marks.ensures))
    c.push_line.ensures
