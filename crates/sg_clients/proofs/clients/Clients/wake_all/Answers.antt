-- Each descriptor passes.
use Rattle.std.proofs.Common.{true}
use Rattle.sg_clients.proofs.clients.Clients.wake_all.Goals as goal

pub returns : goal.returns
returns c = c.wake_where.ensures (λ id. true) (λ id passes is. is)
