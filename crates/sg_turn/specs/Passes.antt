-- What contracts see of a pass, and what its calls make of it.
use Rattle.std.specs.Prelude.{◌≡◌, ℕ, ◌≤◌, ◌⊎◌, true, map, List, [], ◌∷◌, ◌++◌, length, Result, Ok, Err}
use mathlib.Core.List.{IsPrefix}
use Rattle.sg_facts.specs.sg_base.Lists.{Each}
use Rattle.sg_facts.specs.sg_base.declared.call.Call.{Call}
use Rattle.sg_facts.specs.sg_base.declared.reply.Reply.{Reply}
use Rattle.sg_facts.specs.sg_base.declared.value.Value.{Value}
use Rattle.sg_facts.specs.declared.entry.Entry.{Entry}
use Rattle.sg_turn.specs.Logs.{marks_of}
use Rattle.sg_turn.specs.Seats.{SeatView, TurnView, NumberedFrom, knowledge_of}
use Rattle.sg_turn.specs.declared.log.LogMark.{LogMark}
use Rattle.sg_turn.specs.declared.shared.InvokeFault.{InvokeFault}
use Rattle.sg_turn.specs.declared.shared.InvokeFault.TheVariants.{NoMemory, AllBlocked}
use Rattle.sg_turn.specs.Told.{GivenUp, Standing, idle, asking, AllRest, entries_in, withdrawals_in, next_call, standing_after}

-- ---- what a pass has seen

-- the entries that it has seen, of all clients
abbrev pub seen_by : SeatView → List Entry
seen_by p = entries_in p.face.log

-- the marks of its own client
abbrev pub own_marks : SeatView → List LogMark
own_marks p = marks_of p.number p.face.log

-- the entries of its own client
abbrev pub own_entries : SeatView → List Entry
own_entries p = entries_in (own_marks p)

-- the calls that its client withdrew
abbrev pub given_up_by : SeatView → List GivenUp
given_up_by p = withdrawals_in (own_marks p)

-- how its client stands
abbrev pub standing_of : SeatView → Standing
standing_of p = standing_after idle (own_marks p)

-- the call that its client makes next
abbrev pub call_by : SeatView → ℕ → ℕ → List Value → Call
call_by p fun desc args = next_call p.number p.face.log fun desc args

-- ---- all passes

-- these are all passes of a sharing, in ascending numbers
pub record AreAllPasses (t : TurnView) (passes : List SeatView) : Type 0 where
  pub others : List SeatView
  pub final : SeatView
  pub list : passes ≡ others ++ final ∷ []
  pub last : final.last ≡ true
  pub turns : Each (λ p. p.turn ≡ t.id) passes
  pub numbers : NumberedFrom 1 (map knowledge_of passes)

-- ---- what a call makes of a pass

-- the same pass, which knows of as many holds or more; the log that it has seen begins with the one that it had seen
pub record Grows (old new : SeatView) : Type 0 where
  pub number : new.number ≡ old.number
  pub turn : new.turn ≡ old.turn
  pub last : new.last ≡ old.last
  pub known : old.known ≤ new.known
  pub log : IsPrefix old.face.log new.face.log

-- it has seen more, and of its own client nothing new
pub record StaysIn (old new : SeatView) : Type 0 where
  pub grows : Grows old new
  pub entries : own_entries new ≡ own_entries old
  pub given_up : given_up_by new ≡ given_up_by old

-- a call was answered: it is the one new entry of its client, in a history that a service which never failed may have
pub record HasAnswer (legal : List Entry → Type 0) (old : SeatView) (call : Call) (reply : Reply) (new : SeatView) : Type 0 where
  pub grows : Grows old new
  pub entries : own_entries new ≡ own_entries old ++ record { call = call; reply = reply } ∷ []
  pub given_up : given_up_by new ≡ given_up_by old
  pub stands : standing_of new ≡ idle
  pub legal_seen : legal (seen_by new)

-- memory was wanting for a call: it is in no entry, and was withdrawn where it was offered
pub record HasNoMemory (old : SeatView) (call : Call) (new : SeatView) : Type 0 where
  pub grows : Grows old new
  pub entries : own_entries new ≡ own_entries old
  pub given_up : (given_up_by new ≡ given_up_by old) ⊎ ((x : GivenUp) × (x.call ≡ call) × (given_up_by new ≡ given_up_by old ++ x ∷ []))
  pub stands : (standing_of new ≡ standing_of old) ⊎ (standing_of new ≡ idle)

-- a call has no answer after all entries that were seen, and every client waited or had left as it was withdrawn: it is in no entry
pub record HasBlocked (waits : List Entry → Call → Type 0) (old : SeatView) (call : Call) (new : SeatView) : Type 0 where
  pub grows : Grows old new
  pub entries : own_entries new ≡ own_entries old
  pub given_up : (x : GivenUp) × (x.call ≡ call) × (x.at ≡ length (seen_by new)) × AllRest x.phases × (given_up_by new ≡ given_up_by old ++ x ∷ [])
  pub stands : standing_of new ≡ idle
  pub unanswered : waits (seen_by new) call

-- a call has no answer after all entries that were seen: it is in no entry, and stays under way
pub record HasStayed (waits : List Entry → Call → Type 0) (old : SeatView) (call : Call) (new : SeatView) : Type 0 where
  pub grows : Grows old new
  pub entries : own_entries new ≡ own_entries old
  pub given_up : given_up_by new ≡ given_up_by old
  pub stands : standing_of new ≡ asking call
  pub unanswered : waits (seen_by new) call

module _ (legal : List Entry → Type 0) (blocked : SeatView → Call → SeatView → Type 0) where
  -- a call came to nothing, by the fault that is told
  abbrev pub HasFailed : SeatView → Call → InvokeFault → SeatView → Type 0
  HasFailed old call NoMemory new = HasNoMemory old call new
  HasFailed old call AllBlocked new = blocked old call new

  -- what a call makes of a pass, by what it answers
  abbrev pub HasCalled : SeatView → Call → Result Reply InvokeFault → SeatView → Type 0
  HasCalled old call (Ok reply) new = HasAnswer legal old call reply new
  HasCalled old call (Err fault) new = HasFailed old call fault new

-- where nobody can go on the call is withdrawn
abbrev pub HasInvoked : (List Entry → Type 0) → (List Entry → Call → Type 0) → SeatView → Call → Result Reply InvokeFault → SeatView → Type 0
HasInvoked legal waits = HasCalled legal (HasBlocked waits)

-- where nobody can go on the call stays under way
abbrev pub HasPlayed : (List Entry → Type 0) → (List Entry → Call → Type 0) → SeatView → Call → Result Reply InvokeFault → SeatView → Type 0
HasPlayed legal waits = HasCalled legal (HasStayed waits)
