-- The phases of the seats so far, in a room that is left for the others.
use Rattle.std.proofs.Common.{◌≡◌, ◌≤◌, length, map, take}
use Rattle.std.specs.Prelude.{vec_capacity}
use Rattle.sg_clients.proofs.clients.with_phases.Given as goal

abbrev pub invariant-loop-seat : goal.invariant-loop-seat
invariant-loop-seat l = (l.phases.items ≡ map (λ s. s.phase) (take l.seat-index l.seats)) × (length l.seats ≤ vec_capacity l.phases)
