-- One step up, to a smaller id.
use Rattle.std.proofs.Common.{◌∙◌, ◌++◌, [], ◌∷◌, ap, sym, arith}
use Rattle.sg_track.specs.Kept.{rows_in}
use Rattle.sg_track.proofs.Above.{from_parent, one_up, parent_below, up_from}
use Rattle.sg_track.proofs.places.ancestors_in.Goals as goal

pub up-init : goal.up-init
up-init c =
    let rows = rows_in c.args.kept.now.entries in
    ap (λ l. l ++ up_from rows c.parent_of-parent.result) c.new-above.ensures ∙ ap (up_from rows) c.parent_of-parent.ensures
    ∙ sym (from_parent 0 c.requires.most c.args.id rows c.requires.tracked)

pub up-smaller : goal.up-smaller
up-smaller c =
    let below = parent_below 0 c.requires.most c.up.parent (rows_in c.args.kept.now.entries) c.requires.tracked in
    omega (arith, below, c.parent_of-parent-in-up.ensures, c.up-test.true)

pub up-preserved : goal.up-preserved
up-preserved c =
    let rows = rows_in c.args.kept.now.entries in
    ap (λ l. l ++ up_from rows c.parent_of-parent-in-up.result) c.in_ok-push.ensures.ok
    ∙ ap (λ p. (c.up.above ++ c.up.parent ∷ []) ++ up_from rows p) c.parent_of-parent-in-up.ensures
    ∙ one_up 0 c.requires.most c.up.parent rows c.up.above c.requires.tracked c.up-test.true ∙ c.up.invariant
