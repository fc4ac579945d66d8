-- A row more has its line.
use Rattle.std.proofs.Common.{List, ℕ, [], ◌∷◌, ◌++◌, refl, sym, ◌∙◌, ap, length, take}
use Rattle.sg_draw.specs.Pictures.{marks_width}
use Rattle.sg_draw.specs.Inside.Rows.{labels_in}
use Rattle.sg_draw.proofs.Lines.{marks_of_width, printed, prints_line, prints_none, then}
use Rattle.sg_draw.proofs.More.{map_more}
use Rattle.sg_draw.proofs.terminal.push_lines.Goals as goal

pub rows-init : goal.rows-init
rows-init c = record { shown = prints_none (marks_width (length c.args.lanes.now)) c.args.out.now; same_lanes = refl }

pub rows-preserved : goal.rows-preserved
rows-preserved c =
    let width = marks_width (length c.args.lanes.now) in
    let lanes = c.rows.invariant.same_lanes in
    record {
      shown =
          printed
          (map_more (λ r. r.label) c.args.rows.now c.rows.at c.index-rows-at.result c.rows-test.true c.index-rows-at.is
          ∙ ap (λ (text : List ℕ). labels_in (take c.rows.at c.args.rows.now) ++ text ∷ []) (sym c.as_slice-in-rows.ensures))
          (then c.rows.invariant.shown
          (prints_line width c.rows.out _ c.as_slice.result.now c.as_slice-in-rows.result.now
          (marks_of_width (ap marks_width (sym lanes)) c.as_slice.ensures c.in_ok-marks.ensures.marks) c.in_ok-push_line.ensures));
      same_lanes = c.marks_of.ensures.lanes ∙ lanes;
    }
