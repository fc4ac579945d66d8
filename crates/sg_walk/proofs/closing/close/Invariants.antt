-- All that the first places lead to was found.
use Rattle.std.proofs.Common.{◌≡◌, ◌-◌, ◌^◌, ◌<◌, ◌≤◌, ℕ, Some, length}
use Rattle.std.specs.Prelude.{slice_get}
use Rattle.std.specs.List.{Contains}
use Rattle.sg_walk.specs.declared.place.Place.{Place}
use Rattle.sg_walk.specs.ReachedStates.Inside.Places.{AreReached, LeadsTo}
use Rattle.sg_walk.proofs.closing.close.Given as goal

abbrev pub invariant-places : goal.invariant-places
invariant-places l = record {
  closed : (k : ℕ) (p q : Place) → k < l.next → slice_get l.found k ≡ Some p → LeadsTo l.iface p q → Contains l.found q;
  within : l.next ≤ length l.found;
  kept : (p : Place) → Contains l.initial.found p → Contains l.found p;
  reached : (made : ℕ) → AreReached l.iface made l.initial.found → AreReached l.iface made l.found;
}

abbrev pub decreases-places : goal.decreases-places
decreases-places l = 2 ^ 63 - l.next
