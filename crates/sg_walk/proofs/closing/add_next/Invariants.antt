-- What the first transitions lead to was added.
use Rattle.std.proofs.Common.{take}
use Rattle.sg_walk.specs.ReachedStates.Inside.Places.{AddsJust}
use Rattle.sg_walk.proofs.ReachedStates.Moves.{IsNextIn}
use Rattle.sg_walk.proofs.closing.add_next.Given as goal

abbrev pub invariant-moves : goal.invariant-moves
invariant-moves l = AddsJust (IsNextIn l.iface (take l.state-index l.moves) l.place) l.initial.found l.found
