-- The client is taken away, if it waits.
use Rattle.std.proofs.Common.{◌-◌}
use Rattle.sg_clients.proofs.Seats.{Reads}
use Rattle.sg_clients.proofs.Waking.{fewer, taken_away}
use Rattle.sg_clients.proofs.clients.Clients.waiting_without.Goals as goal

-- the seat that is read is the client's
reads : (c : goal.After-from-2) → Reads c.self.inside.seats.items c.args.self.now c.from.result c.args.client c.index.result.now
reads c = record { same = c.self.view_is; is = c.from.ensures; first = c.requires.client.0; last = c.requires.client.1; read = c.index.ensures }

pub returns-clause-others : goal.returns-clause-others
returns-clause-others c = taken_away (reads c) c.self.inside.waiting c.from-2.result c.is_blocked.result c.self.invariant c.from-2.ensures c.is_blocked.ensures

pub returns-clause-fewer : goal.returns-clause-fewer
returns-clause-fewer c = fewer (reads c) (c.self.inside.waiting - c.from-2.result) (returns-clause-others c)
