-- The row that a thread stands for.
use Rattle.std.specs.Prelude.{if◌then◌else◌, [], ◌∷◌}
use Rattle.sg_facts.specs.sg_base.declared.value.Value.TheVariants.{Word}
use Rattle.sg_slots.specs.Slots.{Body}
use Rattle.sg_sched.specs.declared.thread.Thread.{Thread}

-- made by sched_create_thd, in the state that sched_create_thd leaves where it is ready and in that of sched_sleep where it
-- is asleep, with its priority and its rank as fields
abbrev pub thread_body : Thread → Body
thread_body t = record {
  made = 1;
  creator = t.creator;
  parent = 0;
  state = if t.ready then 1 else 3;
  fields = Word t.prio ∷ Word t.rank ∷ [];
}
