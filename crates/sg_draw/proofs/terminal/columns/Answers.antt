-- The heads, the rows and the legend are the whole picture.
use Rattle.std.proofs.Common.{sym, ◌++◌, ◌∙◌, ap, length}
use Rattle.sg_draw.proofs.Lines.{prints_width, then}
use Rattle.sg_draw.proofs.Wholes.{columns_of, rows_seen}
use Rattle.sg_draw.specs.Pictures.{column_heads, column_line, marks_width, title_of}
use Rattle.sg_draw.proofs.terminal.columns.Goals as goal

pub returns : goal.returns
returns c =
    let lanes = c.in_ok-lanes.ensures ∙ ap length c.as_slice-ends.ensures in
    let title = title_of c.args.iface.now.facts in
    columns_of c.args.iface.now.facts c.args.ended.now c.as_slice.result.now c.push_heading.new.out c.push_legend.new.out (rows_seen c.as_slice.ensures c.in_ok-rows.ensures)
    (c.in_ok-push_heading.ensures ∙ ap (λ out. out ++ column_line (column_heads c.as_slice-ends.result.now) title) c.new-out.ensures
    ∙ ap (λ ends. column_line (column_heads ends) title) c.as_slice-ends.ensures)
    (then (prints_width (ap marks_width (sym lanes)) c.in_ok-push_lines.ensures.shows)
    (prints_width (ap marks_width (sym (ap length c.as_slice-2.ensures ∙ c.push_lines.ensures.lanes ∙ lanes))) c.in_ok-push_legend.ensures))
