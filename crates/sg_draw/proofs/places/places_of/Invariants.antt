-- The entries from a place on are noted.
use Rattle.std.proofs.Common.{◌≤◌, drop, length}
use Rattle.sg_draw.specs.Inside.Places.{ArePlacesIn}
use Rattle.sg_draw.proofs.places.places_of.Given as goal

abbrev pub invariant-entries : goal.invariant-entries
invariant-entries l = record {
  low : l.at ≤ length l.history.items;
  kept : ArePlacesIn l.places.entries l.history.items (drop l.at l.history.items);
}

abbrev pub decreases-entries : goal.decreases-entries
decreases-entries l = l.at
