-- One more row is told.
use Rattle.std.proofs.Common.{◌∙◌, ap, arith, get_or, refl, subst, sym}
use Rattle.std.specs.Map.{values_of}
use Rattle.std.proofs.lemmas.Map.Entries.{length-values_of}
use Rattle.indexmap.specs.Layout.{length-set_value_at}
use Rattle.sg_track.specs.declared.kept.Kept.{Kept}
use Rattle.sg_track.specs.Kept.{Counts, IsTold, ends_below, is_marked, rows_in, rows_of}
use Rattle.sg_track.specs.Tracked.{AreTracked}
use Rattle.sg_track.proofs.Counts.{counts_beside, rows_same}
use Rattle.sg_track.proofs.Ends.{told_before, told_each, told_more}
use Rattle.sg_track.proofs.Entries.{keyed-set, read_value, values-set}
use Rattle.sg_track.proofs.subtree.mark_below.Goals as goal

pub rows-init : goal.rows-init
rows-init c =
    let es = c.args.kept.now.entries in
    record {
      spare = refl;
      len = refl;
      keyed = c.requires.keyed;
      rows = refl;
      counts = λ number counts. counts;
      told = told_before c.requires.most c.args.id (values_of es) c.requires.tracked c.first_from-at.result (omega (arith, c.first_from-at.ensures.within, length-values_of es)) c.first_from-at.ensures.before;
    }

pub rows-preserved : goal.rows-preserved
rows-preserved c =
    let es = c.rows.kept.entries in
    let at = c.rows.at in
    let k = c.index_mut.result.now in
    let new : Kept = record { row = k.row; children = k.children; ends = c.ends_below-ends.result } in
    let is = read_value (values_of es) at k c.index_mut.ensures.value in
    let same = ap (λ x. x.row) is in
    let are = subst (AreTracked c.requires.most) (sym c.rows.invariant.rows) c.requires.tracked in
    record {
      spare = c.rows.invariant.spare;
      len = length-set_value_at es at new ∙ c.rows.invariant.len;
      keyed = keyed-set es at new k (ap (λ r. r.id) same) c.rows.invariant.keyed;
      rows = ap rows_of (values-set es at new) ∙ rows_same (values_of es) at new k same ∙ c.rows.invariant.rows;
      counts = λ number counts. subst (Counts number) (sym (values-set es at new))
          (counts_beside number (values_of es) at new k (ap (λ r. r.id) same) (ap (λ x. x.children) is) (c.rows.invariant.counts number counts));
      told = λ n less. subst (λ kept. IsTold c.args.id kept n) (sym (values-set es at new))
          (told_more c.requires.most c.args.id (values_of es) are at new k (omega (arith, length-values_of es)) is refl c.ends_below-ends.ensures c.rows.invariant.told n less);
    }

pub returns-clause-marked : goal.returns-clause-marked
returns-clause-marked c =
    let kept = values_of c.rows.kept.entries in
    told_each (is_marked c.args.id) (ends_below (rows_in c.args.kept.now.entries) c.args.id) kept (λ n within d.
    c.rows.invariant.told n (omega (arith, within, c.rows-test.false, c.rows.invariant.len, length-values_of c.rows.kept.entries)) d
    ∙ ap (λ rows. ends_below rows c.args.id (get_or kept n d).row.id) c.rows.invariant.rows)
