-- The number of a world's clients stays over its events.
use Rattle.std.proofs.Common.{◌≡◌, ℕ, ◌-◌, length, refl, replicate, true, false, Bool}
use Rattle.std.proofs.lemmas.List.{length-set, length-replicate}
use Rattle.std.specs.Prelude.{if◌then◌else◌}
use Rattle.sg_facts.specs.sg_base.declared.call.Call.{Call}
use Rattle.sg_discard.specs.sg_clients.WorldView.{WorldView, happened, in_phase, is_left_phase, new_world, no_seat, offered, seat_of, with_leave, with_mark, withdrawn_by}
use Rattle.sg_discard.specs.sg_clients.declared.phase.Phase.TheVariants.{Left}
use Rattle.sg_discard.specs.sg_clients.declared.mark.MarkKind.TheVariants.{Leave}

-- a new world has as many as are asked for
pub seats_new : (clients : ℕ) → length (new_world (replicate clients no_seat)).seats ≡ clients
seats_new clients = length-replicate clients no_seat

-- a client offers a call
pub seats_offered : (w : WorldView) (client : ℕ) (call : Call) → length (happened (offered w client call)).seats ≡ length w.seats
seats_offered w client call = length-set w.seats (client - 1) _

-- it withdraws it
pub seats_withdrawn : (w : WorldView) (client : ℕ) → length (happened (withdrawn_by w client)).seats ≡ length w.seats
seats_withdrawn w client = length-set w.seats (client - 1) _

-- it leaves
pub seats_left : (w : WorldView) (client : ℕ) → length (happened (with_leave w client)).seats ≡ length w.seats
seats_left w client = by (is_left_phase (seat_of w client).phase)
  where
    by : (b : Bool) → length (happened (if b then w else with_mark (in_phase w client Left) client Leave)).seats ≡ length w.seats
    by true = refl
    by false = length-set w.seats (client - 1) _
