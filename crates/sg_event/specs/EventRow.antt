-- The row that an event stands for.
use Rattle.std.specs.Prelude.{[], ◌∷◌}
use Rattle.sg_facts.specs.sg_base.declared.value.Value.TheVariants.{Word}
use Rattle.sg_slots.specs.Slots.{Body}
use Rattle.sg_event.specs.declared.event.Event.{Event}

-- made by evt_split, in the one state that there is, with the count as its field
abbrev pub event_body : Event → Body
event_body event = record { made = 1; creator = event.creator; parent = 0; state = 1; fields = Word event.count ∷ [] }
