-- The triples of the first places were added.
use Rattle.std.proofs.Common.{◌-◌, ◌^◌, take}
use Rattle.sg_walk.specs.ReachedStates.Inside.Places.{AddsTriples}
use Rattle.sg_walk.proofs.reach.add_triples.Given as goal

abbrev pub invariant-places : goal.invariant-places
invariant-places l = AddsTriples l.made (take l.at l.found) l.initial.triples l.triples

abbrev pub decreases-places : goal.decreases-places
decreases-places l = 2 ^ 63 - l.at
