-- What a step in a hold makes of a seat.
use Rattle.std.specs.Prelude.{◌≡◌, ℕ, List}
use Rattle.sg_facts.specs.sg_base.declared.call.Call.{Call}
use Rattle.sg_facts.specs.declared.entry.Entry.{Entry}
use Rattle.sg_turn.specs.Seats.{SeatView}
use Rattle.sg_turn.specs.declared.holds.HoldStep.{HoldStep}
use Rattle.sg_turn.specs.declared.holds.HoldStep.TheVariants.{GoesOn, AllBlocked, Answered, Short}
use Rattle.sg_turn.specs.Hosts.{AddsAnswer, AddsEntryAtMost}
use Rattle.sg_turn.specs.Passes.{seen_by, standing_of}
use Rattle.sg_turn.specs.Told.{asking}

-- what a step adds, by what it comes to; where all are blocked the client asks, in a call that has no answer after all entries
abbrev pub HasMadeStep : (List Entry → Call → Type 0) → ℕ → SeatView → HoldStep → SeatView → Type 0
HasMadeStep waits client old GoesOn new = AddsEntryAtMost client old.face.log new.face.log
HasMadeStep waits client old AllBlocked new =
    AddsEntryAtMost client old.face.log new.face.log × (call : Call) × (standing_of new ≡ asking call) × waits (seen_by new) call
HasMadeStep waits client old (Answered reply) new = AddsAnswer client reply old.face.log new.face.log
HasMadeStep waits client old Short new = new.face.log ≡ old.face.log
