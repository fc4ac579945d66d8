-- The clients so far.
use Rattle.std.proofs.Common.{◌≡◌, take}
use Rattle.sg_explore.proofs.scripts.copied_clients.Given as goal

abbrev pub invariant-each : goal.invariant-each
invariant-each l = l.copy ≡ take l.client-index l.clients
