-- How far a pass has come with a call that is under way.
use Rattle.std.specs.Prelude.{◌≡◌, ◌≤◌, ◌⊎◌, false, List, [], ◌∷◌, ◌++◌}
use Rattle.sg_facts.specs.sg_base.declared.call.Call.{Call}
use Rattle.sg_facts.specs.sg_base.declared.reply.Reply.{Reply}
use Rattle.sg_facts.specs.declared.entry.Entry.{Entry as HistoryEntry}
use Rattle.sg_turn.specs.Seats.{SeatView}
use Rattle.sg_turn.specs.declared.log.LogMark.{LogMark}
use Rattle.sg_turn.specs.declared.log.LogMarkKind.TheVariants.{Offer, Entry}
use Rattle.sg_turn.specs.declared.shared.HoldEnd.{HoldEnd}
use Rattle.sg_turn.specs.declared.shared.HoldEnd.TheVariants.{UnderWay, Short, Ended}
use Rattle.sg_turn.specs.declared.shared.WhenBlocked.{WhenBlocked}
use Rattle.sg_turn.specs.declared.shared.WhenBlocked.TheVariants.{Withdraws, Stays}
use Rattle.sg_turn.specs.Passes.{Grows, HasBlocked, HasCalled, HasStayed, own_marks}
use Rattle.sg_turn.specs.Told.{mark_by}

-- a seat has given the value back, and counted the hold
pub record GaveBack (old new : SeatView) : Type 0 where
  pub number : new.number ≡ old.number
  pub turn : new.turn ≡ old.turn
  pub last : new.last ≡ old.last
  pub known : old.known ≤ new.known
  pub holds : new.holds ≡ false

-- with these marks more
abbrev pub GaveBackWith : SeatView → SeatView → List LogMark → Type 0
GaveBackWith old new more = GaveBack old new × (new.face.log ≡ old.face.log ++ more)

-- the client has these marks more
pub record HasOwnMore (old new : SeatView) (more : List LogMark) : Type 0 where
  pub grows : Grows old new
  pub own_more : own_marks new ≡ own_marks old ++ more

-- the call is offered, and has no reply
abbrev pub IsOffered : SeatView → Call → SeatView → Type 0
IsOffered old call new = HasOwnMore old new (mark_by old.number (Offer call) ∷ [])

-- the call is an entry, and its reply is to be handed over
abbrev pub IsEntered : SeatView → Call → SeatView → Type 0
IsEntered old call new = (reply : Reply) × HasOwnMore old new (mark_by old.number (Offer call) ∷ mark_by old.number (Entry call reply) ∷ [])

abbrev pub IsUnderWay : SeatView → Call → SeatView → Type 0
IsUnderWay old call new = IsOffered old call new ⊎ IsEntered old call new

-- what becomes of a call where nobody can go on
abbrev pub EndsBlocked : (List HistoryEntry → Call → Type 0) → WhenBlocked → SeatView → Call → SeatView → Type 0
EndsBlocked waits Withdraws = HasBlocked waits
EndsBlocked waits Stays = HasStayed waits

-- what the holds so far have made of the pass, by what the last came to
abbrev pub HasHeld : (List HistoryEntry → Type 0) → (SeatView → Call → SeatView → Type 0) → SeatView → Call → HoldEnd → SeatView → Type 0
HasHeld legal blocked old call UnderWay new = IsUnderWay old call new
HasHeld legal blocked old call Short new = IsUnderWay old call new
HasHeld legal blocked old call (Ended result) new = HasCalled legal blocked old call result new
