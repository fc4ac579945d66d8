-- The client didn't wait before, and doesn't now.
use Rattle.std.proofs.Common.{ap, ◌∙◌}
use Rattle.sg_clients.specs.WorldView.{is_blocked_phase, no_reply}
use Rattle.sg_clients.specs.declared.phase.Phase.TheVariants.{Idle}
use Rattle.sg_clients.proofs.Seats.{Reads, is_changed, is_read}
use Rattle.sg_clients.proofs.Waking.{stays}
use Rattle.sg_clients.proofs.clients.Clients.hand_over.Goals as goal

-- the seat that is read is the client's
reads : (c : goal.After-self-1) → Reads c.self.inside.seats.items c.args.self.now c.from.result c.args.client c.index_mut.result.now
reads c = record { same = c.self.view_is; is = c.from.ensures; first = c.requires.client.0; last = c.requires.client.1; read = c.index_mut.ensures.value }

pub invariant_of-self : goal.invariant_of-self
invariant_of-self c = stays (reads c) c.self.inside.waiting c.hand_over.new.self c.self.invariant (ap is_blocked_phase c.requires.receipted) (ap (λ s. is_blocked_phase s.phase) c.hand_over.ensures.seat)

pub returns-clause-reply : goal.returns-clause-reply
returns-clause-reply c = c.hand_over.ensures.reply ∙ ap (λ s. s.reply) (is_read (reads c))

pub returns-clause-seats : goal.returns-clause-seats
returns-clause-seats c = is_changed (reads c) (λ s. record s { phase = Idle; reply = no_reply }) c.hand_over.new.self c.hand_over.ensures.seat
