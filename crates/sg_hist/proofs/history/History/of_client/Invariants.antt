-- The client's entries so far are those of the first entries.
use Rattle.std.proofs.Common.{◌≡◌, take}
use Rattle.sg_hist.specs.Clients.{calls_of}
use Rattle.sg_hist.proofs.history.History.of_client.Given as goal

abbrev pub invariant-loop-at : goal.invariant-loop-at
invariant-loop-at l = l.own.items ≡ calls_of (take l.at l.self.items) l.client
