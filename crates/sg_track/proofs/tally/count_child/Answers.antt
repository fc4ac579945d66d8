-- The count of the row of the id is one more.
use Rattle.std.proofs.Common.{◌≡◌, ◌+◌, ◌∙◌, ap, sym, subst}
use Rattle.std.specs.Map.{values_of}
use Rattle.sg_track.specs.declared.kept.Kept.{Kept}
use Rattle.sg_track.specs.Kept.{Counts, more_at, rows_of}
use Rattle.sg_track.proofs.Counts.{counts_at, counts_elsewhere, more_here, more_other, rows_same}
use Rattle.sg_track.proofs.Entries.{keyed-set, read_value, values-set}
use Rattle.sg_track.proofs.tally.count_child.Goals as goal

pub returns-in-Some-clause-keyed : goal.returns-in-Some-clause-keyed
returns-in-Some-clause-keyed c =
    let k = c.index_mut.result.now in
    let is = read_value (values_of c.args.kept.now.entries) c.in-Some.place k c.index_mut.ensures.value in
    keyed-set c.args.kept.now.entries c.in-Some.place _ k (ap (λ x. x.row.id) is) c.requires.ascends.keyed

pub returns-in-Some-clause-rows : goal.returns-in-Some-clause-rows
returns-in-Some-clause-rows c =
    let es = c.args.kept.now.entries in
    let k = c.index_mut.result.now in
    let new : Kept = record { row = k.row; children = k.children + 1; ends = k.ends } in
    let is = read_value (values_of es) c.in-Some.place k c.index_mut.ensures.value in
    ap rows_of (values-set es c.in-Some.place new) ∙ rows_same (values_of es) c.in-Some.place new k (ap (λ x. x.row) is)

pub returns-in-Some-clause-counts : goal.returns-in-Some-clause-counts
returns-in-Some-clause-counts c number counts =
    let es = c.args.kept.now.entries in
    let k = c.index_mut.result.now in
    let new : Kept = record { row = k.row; children = k.children + 1; ends = k.ends } in
    let is = read_value (values_of es) c.in-Some.place k c.index_mut.ensures.value in
    let here : k.children ≡ number c.args.id → k.children + 1 ≡ more_at c.args.id number c.args.id = λ is. ap (λ n. n + 1) is ∙ sym (more_here number c.args.id) in
    subst (Counts (more_at c.args.id number)) (sym (values-set es c.in-Some.place new))
    (counts_at c.requires.ascends.most number (more_at c.args.id number) (values_of es) c.in-Some.place c.args.id (k.children + 1) k.ends k c.requires.ascends.tracked c.in-Some.ensures is
    here (more_other number c.args.id) counts)

pub returns-in_default-clause-counts : goal.returns-in_default-clause-counts
returns-in_default-clause-counts c number counts =
    counts_elsewhere number (more_at c.args.id number) c.args.id (values_of c.args.kept.now.entries) c.in_default.ensures (more_other number c.args.id) counts
