use Rattle.std.proofs.Common.{◌≡◌, false}
use Rattle.test_turn.proofs.clients.note_often.Given as goal

abbrev pub invariant-notes : goal.invariant-notes
invariant-notes g l = record {
  turn : l.seat.turn ≡ l.fn.seat.turn;
  number : l.seat.number ≡ l.fn.seat.number;
  last : l.seat.last ≡ l.fn.seat.last;
  free : l.seat.holds ≡ false;
}
