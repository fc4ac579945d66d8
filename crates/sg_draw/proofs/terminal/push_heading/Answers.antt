-- The heads of the lanes, and the title.
use Rattle.std.proofs.Common.{◌∙◌}
use Rattle.std.proofs.lemmas.Result.{on_ok_weaker}
use Rattle.sg_draw.specs.Pictures.{column_heads, title_of}
use Rattle.sg_draw.proofs.Lines.{line_as}
use Rattle.sg_draw.proofs.terminal.push_heading.Goals as goal

pub returns : goal.returns
returns c =
    on_ok_weaker _
    (line_as c.args.out.now _ c.as_slice.result.now (column_heads c.args.ends.now) c.as_slice-2.result.now (title_of c.args.iface.now.facts)
    (c.as_slice.ensures ∙ c.in_ok-marks.ensures) (c.as_slice-2.ensures ∙ c.in_ok-text.ensures))
    c.push_line.ensures
