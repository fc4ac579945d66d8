-- The descriptor passes.
use Rattle.std.specs.Prelude.{◌==◌}
use Rattle.sg_clients.proofs.clients.Clients.wake.Goals as goal

pub returns : goal.returns
returns c = c.wake_where.ensures (λ id. c.args.desc == id) (λ id passes is. is)
