-- The numbers of threads and the answers of the thread service by their functions, as its proofs name them.
use Rattle.std.specs.Prelude.{ℕ, ◌==◌, Bool, if◌then◌else◌, None, Some}
use Rattle.std.specs.Option.{option_map_or}
use Rattle.std.specs.declared.option.Option.{Option}
use Rattle.sg_facts.specs.sg_base.declared.reply.Code.TheVariants.{NotFound}
use Rattle.sg_facts.specs.sg_base.declared.reply.Reply.{Reply}
use Rattle.sg_facts.specs.sg_base.declared.reply.Reply.TheVariants.{Refused}
use Rattle.sg_facts.specs.declared.row.Row.{Row}
use Rattle.sg_facts.specs.Track.{word_of, field_at}
use Rattle.sg_facts.specs.Legal.{done}

-- the priority of a thread; a smaller one goes before
abbrev pub prio_of : Row → ℕ
prio_of r = word_of (field_at r.fields 0)

-- whether a thread is ready: in the state that sched_create_thd leaves
abbrev pub is_ready : Row → Bool
is_ready r = r.state == 1

-- what sched_wait answers, by the state
abbrev pub sched_wait_answer : ℕ → Option Reply
sched_wait_answer state = if state == 3 then None else done 0

-- what sched_next answers: the thread that is next, or none
abbrev pub next_answer : Option Row → Option Reply
next_answer found = option_map_or (λ r. done r.id) found (Some (Refused NotFound))
