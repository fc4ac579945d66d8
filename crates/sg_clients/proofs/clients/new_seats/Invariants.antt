-- As many clients so far as were counted.
use Rattle.std.specs.Prelude.{◌≡◌, replicate}
use Rattle.sg_clients.specs.WorldView.{no_seat}
use Rattle.sg_clients.proofs.clients.new_seats.Given as goal

abbrev pub invariant-loop : goal.invariant-loop
invariant-loop l = l.seats.items ≡ replicate l.counter no_seat
