-- What the event service decides on an event.
use Rattle.std.specs.Prelude.{ℕ, ◌+◌, ◌-◌, ◌==◌, min, nat_lt, if◌then◌else◌, None, Some}
use Rattle.sg_facts.specs.sg_base.declared.reply.Code.TheVariants.{Overflow}
use Rattle.sg_slots.specs.declared.decision.Decision.{Decision}
use Rattle.sg_slots.specs.declared.decision.Decision.TheVariants.{Refuse, Block, Make, Set}
use Rattle.sg_event.specs.declared.event.Event.{Event}
use Rattle.sg_event.specs.Inside.EventAnswer.{most_count}

-- an event with another count
abbrev pub set_count : Event → ℕ → Decision Event
set_count event count = Set (record { creator = event.creator; count = count }) None

-- a client makes an event, whose count is 0
abbrev pub on_split : ℕ → Decision Event
on_split client = Make (record { creator = client; count = 0 }) None

-- a client waits for an event: the count falls by one, or the call blocks where the count is 0
abbrev pub on_event_wait : Event → Decision Event
on_event_wait event = if event.count == 0 then Block else set_count event (event.count - 1)

-- an event is triggered: its count rises by so much, or the call is refused where it would pass the greatest count
abbrev pub on_trigger : Event → ℕ → Decision Event
on_trigger event n = if nat_lt most_count (event.count + n) then Refuse Overflow else set_count event (event.count + n)

abbrev pub on_take : Event → ℕ → Decision Event
on_take event n = Set (record { creator = event.creator; count = event.count - min n event.count }) (Some (min n event.count))
