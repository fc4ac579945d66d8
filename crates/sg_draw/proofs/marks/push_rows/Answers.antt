-- A row more is drawn.
use Rattle.std.proofs.Common.{◌∙◌, ap, sym, List, ℕ, ◌∷◌, [], ◌++◌, take}
use Rattle.sg_draw.proofs.Documents.{drawn, still, then}
use Rattle.sg_draw.proofs.More.{map_more}
use Rattle.sg_draw.specs.Inside.Rows.{labels_in}
use Rattle.sg_draw.proofs.marks.push_rows.Goals as goal

pub rows-init : goal.rows-init
rows-init c = still c.args.out.now

pub rows-preserved : goal.rows-preserved
rows-preserved c =
    drawn
    (map_more (λ r. r.label) c.args.rows.now c.rows.at c.index-rows-at.result c.rows-test.true c.index-rows-at.is
    ∙ ap (λ (text : List ℕ). labels_in (take c.rows.at c.args.rows.now) ++ text ∷ []) (sym c.as_slice.ensures))
    (then c.rows.invariant (then c.in_ok-push_event.ensures c.in_ok-push_words.ensures))
