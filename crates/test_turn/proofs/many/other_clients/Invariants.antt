use Rattle.std.proofs.Common.{◌≡◌, All}
use Rattle.test_turn.proofs.many.other_clients.Given as goal

abbrev pub invariant-clients : goal.invariant-clients
invariant-clients l = record {
  id : l.dealing.id ≡ l.initial.dealing.id;
  next : l.dealing.next ≡ l.number;
  turns : All (λ c. c.seat.turn ≡ l.initial.dealing.id) l.clients.items;
}
