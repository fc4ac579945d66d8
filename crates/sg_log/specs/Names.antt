-- What a named world asks of a call, and what its log tells.
use Rattle.std.specs.Prelude.{◌≡◌, ℕ, ◌==◌, true, List, filter, length, map, None}
use Rattle.sg_turn.specs.sg_facts.sg_base.declared.call.Call.{Call}
use Rattle.sg_turn.specs.sg_facts.Interface.{Declared, declares}
use Rattle.sg_turn.specs.sg_facts.Kinds.{AreWords, FitsKinds}
use Rattle.sg_turn.specs.sg_facts.Legal.{Table, answer}
use Rattle.sg_turn.specs.sg_facts.Object.{object_of}
use Rattle.sg_turn.specs.sg_facts.declared.entry.Entry.{Entry}
use Rattle.sg_turn.specs.Told.{Standing, asking, entries_by, entries_in, has_reply, idle, left, standing_in, withdrawals_in}
use Rattle.sg_turn.specs.Logs.{marks_of}
use Rattle.sg_world.specs.sg_clients.Clients.{IsClient}
use Rattle.sg_world.specs.sg_recovery_laws.sg_hist.Clients.{calls_of}
use Rattle.sg_world.specs.sg_clients.WorldView.{Seat, WorldView, is_offered, seat_of}
use Rattle.sg_world.specs.sg_clients.declared.phase.Phase.TheVariants.{Idle, Left, Receipted}
use Rattle.sg_world.specs.sg_clients.declared.withdrawn.Withdrawn.{Withdrawn}
use Rattle.sg_log.specs.Log.{given_up, log_of, phase_number}

-- a call that a client may offer: its function is declared, and takes such arguments
pub record MayOffer (i : Declared) (call : Call) : Type 0 where
  pub declared : declares i call.fun ≡ true
  pub fits : FitsKinds i.facts call
  pub words : AreWords call.args

-- a call has no answer after a history
abbrev pub HasNoAnswer : Declared → Table → List Entry → Call → Type 0
HasNoAnswer i ask history call = answer i ask (object_of i.facts history) call ≡ None

-- the phases of a world's clients, as numbers
abbrev pub phases_of : WorldView → List ℕ
phases_of w = map phase_number (map (λ s. s.phase) w.seats)

-- a client's seat is as the client stands in the log
abbrev pub IsSeatOf : Standing → Seat → Type 0
IsSeatOf idle seat = seat.phase ≡ Idle
IsSeatOf left seat = seat.phase ≡ Left
IsSeatOf (asking call) seat = (is_offered seat.phase ≡ true) × (seat.call ≡ call)
IsSeatOf (has_reply call reply) seat = seat.phase ≡ Receipted

-- the withdrawn calls of a client
abbrev pub withdrawn_of : List Withdrawn → ℕ → List Withdrawn
withdrawn_of withdrawn client = filter (λ x. x.call.client == client) withdrawn

-- the log of a world tells its entries and its withdrawn calls, of each client those of that client, and how it stands
pub record TellsWorld (w : WorldView) : Type 0 where
  pub entries : entries_in (log_of w) ≡ w.history
  pub own : (client : ℕ) → entries_by client (log_of w) ≡ calls_of w.history client
  pub withdrawals : withdrawals_in (log_of w) ≡ map given_up w.withdrawn
  pub own_withdrawals : (client : ℕ) → withdrawals_in (marks_of client (log_of w)) ≡ map given_up (withdrawn_of w.withdrawn client)
  pub stands : (client : ℕ) → IsClient (length w.seats) client → IsSeatOf (standing_in client (log_of w)) (seat_of w client)
