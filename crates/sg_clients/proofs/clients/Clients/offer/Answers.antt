-- The client didn't wait before, and doesn't now.
use Rattle.std.proofs.Common.{ap, ◌∙◌, OnErr, Ok, Err}
use Rattle.std.specs.declared.result.Result.{Result}
use Rattle.sg_clients.specs.WorldView.{is_blocked_phase, seat_in}
use Rattle.sg_clients.specs.declared.phase.Phase.TheVariants.{Asked}
use Rattle.sg_clients.proofs.Seats.{Reads, is_changed, is_read, set_again}
use Rattle.sg_clients.proofs.Waking.{free_rests, stays}
use Rattle.sg_clients.proofs.clients.Clients.offer.Goals as goal

-- the seat that is read is the client's, where there was no memory for the offer
reads_refused : (c : goal.After-from_residual) → Reads c.self.inside.seats.items c.args.self.now c.from.result c.args.call.client c.index_mut.result.now
reads_refused c = record { same = c.self.view_is; is = c.from.ensures; first = c.requires.client.0; last = c.requires.client.1; read = c.index_mut.ensures.value }

-- and where it is made
reads_made : (c : goal.In_ok-offer) → Reads c.self.inside.seats.items c.args.self.now c.from.result c.args.call.client c.index_mut.result.now
reads_made c = record { same = c.self.view_is; is = c.from.ensures; first = c.requires.client.0; last = c.requires.client.1; read = c.index_mut.ensures.value }

-- a fact that holds anyway
on_err : {A E : Type 0} (P : Type 0) (r : Result A E) → P → OnErr r P
on_err P (Ok x) p = tt
on_err P (Err e) p = p

pub invariant_of-self : goal.invariant_of-self
invariant_of-self c =
    let free = free_rests (seat_in c.args.self.now c.args.call.client).phase c.requires.free in
    stays (reads_refused c) c.self.inside.waiting c.offer.new.self c.self.invariant free
    (ap (λ s. is_blocked_phase s.phase) (c.in_err-offer.ensures.err ∙ is_read (reads_refused c)) ∙ free)

pub invariant_of-self-2 : goal.invariant_of-self-2
invariant_of-self-2 c =
    stays (reads_made c) c.self.inside.waiting c.offer.new.self c.self.invariant
    (free_rests (seat_in c.args.self.now c.args.call.client).phase c.requires.free) (ap (λ s. is_blocked_phase s.phase) c.in_ok-offer.ensures.ok)

pub returns-in_err-offer-clause-err : goal.returns-in_err-offer-clause-err
returns-in_err-offer-clause-err c =
    on_err _ c.from_residual.result (is_changed (reads_refused c) (λ s. s) c.offer.new.self c.in_err-offer.ensures.err ∙ set_again c.args.self.now c.args.call.client)

pub returns-clause-ok : goal.returns-clause-ok
returns-clause-ok c = is_changed (reads_made c) (λ s. record s { phase = Asked; call = c.args.call }) c.offer.new.self c.in_ok-offer.ensures.ok
