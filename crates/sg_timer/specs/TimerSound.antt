-- The objects that the timer service can come to.
use Rattle.std.specs.Prelude.{◌≤◌, List}
use Rattle.sg_facts.specs.sg_base.declared.value.Value.{Value}
use Rattle.sg_facts.specs.declared.row.Row.{Row}
use Rattle.sg_facts.specs.Limits.{last_client}
use Rattle.sg_facts.specs.Object.{Object}
use Rattle.sg_facts.specs.Sound.{IsSound, AreRows}
use Rattle.sg_facts.specs.Track.{word_of, field_at}
use Rattle.sg_slots.specs.Apart.{AreApart}
use Rattle.sg_timer.specs.TimerFacts.{timer_facts}
use Rattle.sg_timer.specs.TimerTable.{most_ticks, tag_of}

-- the owner is a client, and neither the period nor the time is above the greatest
pub record AreTimed (fields : List Value) : Type 0 where
  pub owner_first : 1 ≤ word_of (field_at fields 0)
  pub owner_last : word_of (field_at fields 0) ≤ last_client
  pub period : word_of (field_at fields 1) ≤ most_ticks
  pub time : word_of (field_at fields 3) ≤ most_ticks

-- the fields of a timer are so
abbrev pub IsTimed : Row → Type 0
IsTimed r = AreTimed r.fields

-- a sound object of the timer service: no two timers have one tag
pub record IsTimerSound (o : Object) : Type 0 where
  pub general : IsSound timer_facts o
  pub timed : AreRows IsTimed 0 o.given o.rows
  pub apart : AreApart tag_of o.rows
