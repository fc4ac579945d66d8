-- Passes whose client has no call under way, what calls leave of a pass, and calls on locks.
use Rattle.std.specs.Prelude.{◌≡◌, ℕ, ◌+◌, ◌≤◌, List, [], length}
use Rattle.sg_log.specs.sg_turn.sg_facts.sg_base.declared.call.Call.{Call}
use Rattle.sg_log.specs.sg_turn.sg_facts.declared.entry.Entry.{Entry}
use Rattle.sg_log.specs.sg_turn.Seats.{SeatView, TurnView}
use Rattle.sg_log.specs.sg_turn.Passes.{own_entries, standing_of}
use Rattle.sg_log.specs.sg_turn.Told.{HasNoCall}

-- ---- passes

-- a pass of a client of this sharing
pub record IsPassOf (t : TurnView) (client : ℕ) (p : SeatView) : Type 0 where
  pub turn : p.turn ≡ t.id
  pub number : p.number ≡ client

-- a pass whose client has no call under way, and so many entries at most
pub record IsReady (t : TurnView) (most : ℕ) (p : SeatView) : Type 0 where
  pub turn : p.turn ≡ t.id
  pub free : HasNoCall (standing_of p)
  pub entries : length (own_entries p) ≤ most

-- a pass whose client has made no call yet
pub record IsNewPass (t : TurnView) (client : ℕ) (p : SeatView) : Type 0 where
  pub ready : IsReady t 0 p
  pub number : p.number ≡ client

-- the same pass
pub record StaysPass (old new : SeatView) : Type 0 where
  pub turn : new.turn ≡ old.turn
  pub number : new.number ≡ old.number
  pub last : new.last ≡ old.last

-- so many calls at most were made through it, of which none is under way
pub record HasMade (most : ℕ) (old new : SeatView) : Type 0 where
  pub stays : StaysPass old new
  pub free : HasNoCall (standing_of new)
  pub entries : length (own_entries new) ≤ length (own_entries old) + most

-- ---- calls on locks

-- a call makes a lock, takes one or releases one
pub record IsLockCall (fun desc : ℕ) : Type 0 where
  pub first : 1 ≤ fun
  pub last : fun ≤ 3
  pub creates : fun ≡ 1 → desc ≡ 0

-- a client may offer such calls, whatever its entries
abbrev pub TakesLockCalls : (List Entry → Call → Type 0) → Type 0
TakesLockCalls may = (own : List Entry) (client seq fun desc : ℕ) → IsLockCall fun desc → may own (record { client = client; seq = seq; fun = fun; desc = desc; args = [] })
