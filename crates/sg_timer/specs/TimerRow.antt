-- The row that a timer stands for.
use Rattle.std.specs.Prelude.{[], ◌∷◌}
use Rattle.sg_facts.specs.sg_base.declared.value.Value.TheVariants.{Word}
use Rattle.sg_slots.specs.Slots.{Body}
use Rattle.sg_timer.specs.declared.timer.Timer.{Timer}

-- made by tmr_create, in the one state that there is, by its owner, with its owner, period, tag, time and due time as fields
abbrev pub timer_body : Timer → Body
timer_body t = record {
  made = 1;
  creator = t.owner;
  parent = 0;
  state = 1;
  fields = Word t.owner ∷ Word t.period ∷ Word t.tag ∷ Word t.time ∷ Word t.due ∷ [];
}
