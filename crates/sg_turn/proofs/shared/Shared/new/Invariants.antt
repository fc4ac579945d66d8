use Rattle.std.proofs.Common.{◌≡◌, ◌+◌, ◌≤◌, vec_len, vec_capacity}
use Rattle.sg_turn.specs.Seats.{first_seats, turn_of}
use Rattle.sg_turn.proofs.shared.Shared.new.Given as goal

abbrev pub invariant-dealing : goal.invariant-dealing
invariant-dealing g l = record {
  start : l.dealing.start ≡ l.initial.dealing.start;
  id : l.dealing.id ≡ l.initial.dealing.id;
  next : l.dealing.next ≡ l.before + 1;
  list : l.passes.items ≡ first_seats (turn_of l.initial.dealing) l.before;
  length : vec_len l.passes ≡ l.before;
  room : l.count ≤ vec_capacity l.passes;
}
