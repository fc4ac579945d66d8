-- The log of a world: what happened to its clients, with the calls and replies of it.
use Rattle.std.specs.Prelude.{ℕ, zero, suc, ◌==◌, if◌then◌else◌, slice_get, unwrap_or, List, [], ◌∷◌, map}
use Rattle.sg_turn.specs.sg_facts.sg_base.declared.call.Call.{Call}
use Rattle.sg_turn.specs.sg_facts.declared.entry.Entry.{Entry}
use Rattle.sg_turn.specs.declared.log.LogMark.{LogMark}
use Rattle.sg_turn.specs.declared.log.LogMarkKind.{LogMarkKind}
use Rattle.sg_turn.specs.declared.log.LogMarkKind.TheVariants.{Offer as OfOffer, Entry as OfEntry, Answer as OfAnswer, Withdraw as OfWithdrawal, Leave as OfLeave}
use Rattle.sg_turn.specs.Told.{GivenUp, blocked_number, left_number}
use Rattle.sg_world.specs.sg_clients.WorldView.{Seat, WorldView, no_call, no_reply, no_seat}
use Rattle.sg_world.specs.sg_clients.declared.mark.Mark.{Mark}
use Rattle.sg_world.specs.sg_clients.declared.mark.MarkKind.{MarkKind}
use Rattle.sg_world.specs.sg_clients.declared.mark.MarkKind.TheVariants.{Offer, Entry as Entered, Answer, Withdraw, Leave}
use Rattle.sg_world.specs.sg_clients.declared.phase.Phase.{Phase}
use Rattle.sg_world.specs.sg_clients.declared.phase.Phase.TheVariants.{Idle, Asked, Held, Receipted, Blocked, Left}
use Rattle.sg_world.specs.sg_clients.declared.withdrawn.Withdrawn.{Withdrawn}

-- the phases as numbers, in their order
abbrev pub phase_number : Phase → ℕ
phase_number Idle = 0
phase_number Asked = 1
phase_number Held = 2
phase_number Receipted = 3
phase_number Blocked = blocked_number
phase_number Left = left_number

-- a withdrawn call as a log tells it
abbrev pub given_up : Withdrawn → GivenUp
given_up x = record { call = x.call; phases = map phase_number x.phases; at = x.at }

-- ---- what a mark is of: the first of the entries, or of the withdrawn calls, that are left

abbrev pub first_entry : List Entry → Entry
first_entry [] = record { call = no_call; reply = no_reply }
first_entry (e ∷ history) = e

abbrev pub first_withdrawn : List Withdrawn → Withdrawn
first_withdrawn [] = record { call = no_call; phases = []; at = 0 }
first_withdrawn (x ∷ withdrawn) = x

-- the entries that are left after a mark
abbrev pub entries_after : MarkKind → List Entry → List Entry
entries_after Entered [] = []
entries_after Entered (e ∷ history) = history
entries_after Offer history = history
entries_after Answer history = history
entries_after Withdraw history = history
entries_after Leave history = history

-- the withdrawn calls that are left after a mark
abbrev pub withdrawn_after : MarkKind → List Withdrawn → List Withdrawn
withdrawn_after Withdraw [] = []
withdrawn_after Withdraw (x ∷ withdrawn) = withdrawn
withdrawn_after Offer withdrawn = withdrawn
withdrawn_after Entered withdrawn = withdrawn
withdrawn_after Answer withdrawn = withdrawn
withdrawn_after Leave withdrawn = withdrawn

-- the call that the mark of an entry or of a withdrawn call is of
abbrev pub call_told : MarkKind → List Entry → List Withdrawn → Call
call_told Entered history withdrawn = (first_entry history).call
call_told Withdraw history withdrawn = (first_withdrawn withdrawn).call
call_told Offer history withdrawn = no_call
call_told Answer history withdrawn = no_call
call_told Leave history withdrawn = no_call

-- ---- a log, by what each client offered last

module _ (calls : ℕ → Call) where
  -- the call of a client's next mark, or the one that it offered last where it has no mark any more
  abbrev pub coming_call : ℕ → List Mark → List Entry → List Withdrawn → Call
  coming_call client [] history withdrawn = calls client
  coming_call client (m ∷ marks) history withdrawn =
      if m.client == client then call_told m.kind history withdrawn else coming_call client marks (entries_after m.kind history) (withdrawn_after m.kind withdrawn)

  -- what a mark of a client tells, by the marks after it, and by the entries and withdrawn calls from it on
  abbrev pub kind_told : MarkKind → ℕ → List Mark → List Entry → List Withdrawn → LogMarkKind
  kind_told Offer client marks history withdrawn = OfOffer (coming_call client marks history withdrawn)
  kind_told Entered client marks history withdrawn = OfEntry (first_entry history).call (first_entry history).reply
  kind_told Answer client marks history withdrawn = OfAnswer
  kind_told Withdraw client marks history withdrawn = let x = given_up (first_withdrawn withdrawn) in OfWithdrawal x.call x.phases x.at
  kind_told Leave client marks history withdrawn = OfLeave

  -- the marks of entries have the entries, one by one, and those of withdrawn calls the withdrawn calls
  abbrev pub log_from : List Mark → List Entry → List Withdrawn → List LogMark
  log_from [] history withdrawn = []
  log_from (m ∷ marks) history withdrawn =
      record { client = m.client; kind = kind_told m.kind m.client marks history withdrawn } ∷ log_from marks (entries_after m.kind history) (withdrawn_after m.kind withdrawn)

-- the call of the seat at a place
abbrev pub call_at : List Seat → ℕ → Call
call_at seats i = (unwrap_or (slice_get seats i) no_seat).call

-- the call that a client offered last; clients are numbered from 1
abbrev pub call_in : List Seat → ℕ → Call
call_in seats zero = no_call
call_in seats (suc i) = call_at seats i

-- the log of a world: its marks, with what they are of. An offer's call is that of its client's next mark, where that is of an entry or
-- of a withdrawn call; where the client has no mark any more it is the call that it offered last
abbrev pub log_of : WorldView → List LogMark
log_of w = log_from (call_in w.seats) w.marks w.history w.withdrawn
