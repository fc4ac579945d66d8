use Rattle.std.proofs.Common.{◌≡◌}
use Rattle.test_turn.proofs.threads.ask.Given as goal

abbrev pub invariant-asks : goal.invariant-asks
invariant-asks l = l.seat.turn ≡ l.initial.seat.turn
