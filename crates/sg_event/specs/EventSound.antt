-- The objects that the event service can come to.
use Rattle.std.specs.Prelude.{◌≤◌}
use Rattle.sg_facts.specs.declared.row.Row.{Row}
use Rattle.sg_facts.specs.Track.{word_of, field_at}
use Rattle.sg_facts.specs.Object.{Object}
use Rattle.sg_facts.specs.Sound.{IsSound, AreRows}
use Rattle.sg_event.specs.EventFacts.{event_facts}
use Rattle.sg_event.specs.Inside.EventAnswer.{most_count}

-- a count is at most the greatest
abbrev pub IsCounted : Row → Type 0
IsCounted r = word_of (field_at r.fields 0) ≤ most_count

-- a sound object of the event service
pub record IsEventSound (o : Object) : Type 0 where
  pub general : IsSound event_facts o
  pub counted : AreRows IsCounted 0 o.given o.rows
