-- The client no longer waits.
use Rattle.std.proofs.Common.{ap}
use Rattle.sg_clients.specs.WorldView.{is_blocked_phase}
use Rattle.sg_clients.specs.declared.phase.Phase.TheVariants.{Left}
use Rattle.sg_clients.proofs.Seats.{Reads, is_changed}
use Rattle.sg_clients.proofs.Waking.{rests}
use Rattle.sg_clients.proofs.clients.Clients.leave.Goals as goal

-- the seat that is read is the client's
reads : (c : goal.After-self-2-1) → Reads c.self.inside.seats.items c.args.self.now c.from.result c.args.client c.index_mut.result.now
reads c = record { same = c.self.view_is; is = c.from.ensures; first = c.requires.client.0; last = c.requires.client.1; read = c.index_mut.ensures.value }

pub invariant_of-self : goal.invariant_of-self
invariant_of-self c = rests (reads c) c.waiting_without-self-inside.result c.leave.new.self c.waiting_without-self-inside.ensures.others (ap (λ s. is_blocked_phase s.phase) c.leave.ensures)

pub returns : goal.returns
returns c = is_changed (reads c) (λ s. record s { phase = Left }) c.leave.new.self c.leave.ensures
