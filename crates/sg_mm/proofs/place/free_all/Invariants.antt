-- Once the places of the ids that are left are free, all are free that are to be.
use Rattle.std.proofs.Common.{◌≡◌, not}
use Rattle.std.proofs.lemmas.Map.Entries.{option_filter}
use Rattle.sg_mm.specs.declared.page.PageKey.{PageKey}
use Rattle.sg_mm.specs.Inside.Children.{has_id}
use Rattle.sg_mm.specs.Inside.MmIndex.{ArePlaced, id_in}
use Rattle.sg_mm.proofs.Ending.{is_left}
use Rattle.sg_mm.proofs.place.free_all.Given as goal

abbrev pub invariant-ids : goal.invariant-ids
invariant-ids l = record {
  placed : ArePlaced l.pages.entries l.places;
  rest : (place : PageKey) → option_filter (λ n. not (is_left l.id-iterator n)) (id_in l.places place) ≡ option_filter (λ n. not (has_id l.ends n)) (id_in l.initial.places place);
}
