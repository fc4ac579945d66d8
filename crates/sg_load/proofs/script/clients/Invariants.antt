-- The clients so far, with those that are left.
use Rattle.std.proofs.Common.{◌≡◌, ◌+◌, ◌-◌, ◌++◌}
use Rattle.sg_load.specs.Generated.{clients_from}
use Rattle.sg_load.specs.Inside.{client_count}
use Rattle.sg_load.proofs.script.clients.Given as goal

abbrev pub invariant-each : goal.invariant-each
invariant-each l = l.clients ++ clients_from l.service (l.done + 1) l.draws (client_count - l.done) ≡ clients_from l.service 1 l.fn.draws client_count
