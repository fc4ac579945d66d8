-- The row is taken out of the count of its parent.
use Rattle.std.proofs.Common.{◌∙◌, ap, sym, subst}
use Rattle.std.specs.Map.{values_of}
use Rattle.sg_track.specs.Kept.{children_of, less_at, others_of, rows_in}
use Rattle.sg_track.specs.Tracked.{AreTracked, HasLowerParent}
use Rattle.sg_track.proofs.Counts.{counts_as, others_are}
use Rattle.sg_track.proofs.tally.discount_row.Goals as goal

pub returns-clause-counts : goal.returns-clause-counts
returns-clause-counts c counts =
    let rows = rows_in c.args.kept.now.entries in
    counts_as HasLowerParent 0 c.requires.most (less_at c.parent_of-parent.result (children_of rows)) (others_of c.args.id rows) (values_of c.discount_child.new.kept.entries)
    (subst (AreTracked c.requires.most) (sym c.discount_child.ensures.rows) c.requires.tracked)
    (λ id some. ap (λ p. less_at p (children_of rows) id) c.parent_of-parent.ensures ∙ others_are c.requires.most c.args.id rows id c.requires.tracked some)
    (c.discount_child.ensures.counts (children_of rows) counts)
