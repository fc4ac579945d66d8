-- Once the ids that are left are gone, all are gone that end.
use Rattle.std.proofs.Common.{◌≡◌, not, filter}
use Rattle.sg_mm.specs.Inside.Children.{has_id}
use Rattle.sg_mm.specs.Inside.MmIndex.{AreAscending}
use Rattle.sg_mm.proofs.Ending.{is_left}
use Rattle.sg_mm.proofs.subtree.end_all.Given as goal

abbrev pub invariant-ids : goal.invariant-ids
invariant-ids l = record {
  ascending : AreAscending l.pages.entries;
  rest : filter (λ e. not (is_left l.id-iterator e.0)) l.pages.entries ≡ filter (λ e. not (has_id l.ends e.0)) l.initial.pages.entries;
}
