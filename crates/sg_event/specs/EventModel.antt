-- The event service as plain data, with the laws that it keeps to.
use Rattle.std.specs.Prelude.{refl}
use Rattle.sg_slots.specs.RowModel.{RowModel}
use Rattle.sg_event.specs.Laws.EventAlikeLaw.{event_answers_alike}
use Rattle.sg_event.specs.Laws.EventBlockedLaw.{event_blocked_stays}
use Rattle.sg_event.specs.EventFacts.{event_facts}
use Rattle.sg_event.specs.Laws.EventShapeLaw.{event_counts_slowly, event_shape_allows}
use Rattle.sg_event.specs.EventSound.{IsEventSound}
use Rattle.sg_event.specs.Laws.EventSoundLaw.{event_answers_and_keeps}
use Rattle.sg_event.specs.EventTable.{event_parts, event_table}
use Rattle.sg_event.specs.Laws.EventWalkLaw.{event_walk_goes_on}

-- the event service: its facts, its table, the parts of its Oks, its sound objects, and the laws that it keeps to
abbrev pub event_model : RowModel
event_model = record {
  facts = event_facts;
  ask = event_table;
  parts = event_parts;
  sound = IsEventSound;
  fileless = refl;
  answers_and_keeps = event_answers_and_keeps;
  answers_alike = event_answers_alike;
  walk_goes_on = event_walk_goes_on;
  blocked_stays = event_blocked_stays;
  shape_allows = event_shape_allows;
  counts_slowly = event_counts_slowly;
}
