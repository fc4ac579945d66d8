-- The count of the row of the id is one less.
use Rattle.std.proofs.Common.{◌≡◌, ◌-◌, ◌∙◌, ap, sym, subst, Some}
use Rattle.std.specs.Map.{values_of}
use Rattle.sg_track.specs.declared.kept.Kept.{Kept}
use Rattle.sg_track.specs.Kept.{Counts, less_at, rows_of}
use Rattle.sg_track.proofs.Counts.{counts_at, counts_elsewhere, less_here, less_other, rows_same}
use Rattle.sg_track.proofs.Entries.{keyed-set, read_value, values-set}
use Rattle.sg_track.proofs.tally.discount_child.Goals as goal

pub returns-in-Some-clause-keyed : goal.returns-in-Some-clause-keyed
returns-in-Some-clause-keyed c =
    let k = c.index_mut.result.now in
    let is = read_value (values_of c.args.kept.now.entries) c.in-Some.place k c.index_mut.ensures.value in
    keyed-set c.args.kept.now.entries c.in-Some.place _ k (ap (λ x. x.row.id) is) c.requires.keyed

pub returns-in-Some-clause-rows : goal.returns-in-Some-clause-rows
returns-in-Some-clause-rows c =
    let es = c.args.kept.now.entries in
    let k = c.index_mut.result.now in
    let new : Kept = record { row = k.row; children = c.saturating_sub.result; ends = k.ends } in
    let is = read_value (values_of es) c.in-Some.place k c.index_mut.ensures.value in
    ap rows_of (values-set es c.in-Some.place new) ∙ rows_same (values_of es) c.in-Some.place new k (ap (λ x. x.row) is)

pub returns-in-Some-clause-counts : goal.returns-in-Some-clause-counts
returns-in-Some-clause-counts c number counts =
    let es = c.args.kept.now.entries in
    let k = c.index_mut.result.now in
    let new : Kept = record { row = k.row; children = c.saturating_sub.result; ends = k.ends } in
    let is = read_value (values_of es) c.in-Some.place k c.index_mut.ensures.value in
    let both : Some c.index.result.now ≡ Some k = sym c.index.ensures ∙ c.index_mut.ensures.value in
    let one : c.index.result.now ≡ k = cc both in
    let here : k.children ≡ number c.args.id → c.saturating_sub.result ≡ less_at c.args.id number c.args.id
    = λ is. c.saturating_sub.ensures ∙ ap (λ x. x.children - 1) one ∙ ap (λ n. n - 1) is ∙ sym (less_here number c.args.id) in
    subst (Counts (less_at c.args.id number)) (sym (values-set es c.in-Some.place new))
    (counts_at c.requires.most number (less_at c.args.id number) (values_of es) c.in-Some.place c.args.id c.saturating_sub.result k.ends k c.requires.tracked c.in-Some.ensures is
    here (less_other number c.args.id) counts)

pub returns-in_default-clause-counts : goal.returns-in_default-clause-counts
returns-in_default-clause-counts c number counts =
    counts_elsewhere number (less_at c.args.id number) c.args.id (values_of c.args.kept.now.entries) c.in_default.ensures (less_other number c.args.id) counts
