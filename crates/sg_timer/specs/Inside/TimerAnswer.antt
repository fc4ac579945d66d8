-- The answers of the timer service by their functions, as its proofs name them.
use Rattle.std.specs.Prelude.{ℕ, ◌+◌, ◌==◌, Bool, nat_lt, if◌then◌else◌, None, Some}
use Rattle.std.specs.Option.{option_map_or}
use Rattle.std.specs.declared.option.Option.{Option}
use Rattle.sg_facts.specs.sg_base.declared.reply.Code.TheVariants.{NotFound, NotOwner, Occupied, Overflow, TooBig}
use Rattle.sg_facts.specs.sg_base.declared.reply.Reply.{Reply}
use Rattle.sg_facts.specs.sg_base.declared.reply.Reply.TheVariants.{Refused}
use Rattle.sg_facts.specs.declared.row.Row.{Row}
use Rattle.sg_facts.specs.Legal.{done}
use Rattle.sg_timer.specs.TimerTable.{most_ticks, skipped, worded, field_in}

-- what tmr_create answers, by the number of ids given, the period, and whether the tag is taken
abbrev pub create_answer : ℕ → ℕ → Bool → Option Reply
create_answer given period taken = if nat_lt most_ticks period then Some (Refused TooBig) else if taken then Some (Refused Occupied) else worded (given + 1) period

-- what tmr_tick answers, by the time and the ticks
abbrev pub tick_answer : ℕ → ℕ → Option Reply
tick_answer time ticks = if nat_lt most_ticks (time + ticks) then Some (Refused Overflow) else done 0

-- what tmr_wait answers, by the time, when the timer is due, and its period
abbrev pub timer_wait_answer : ℕ → ℕ → ℕ → Option Reply
timer_wait_answer time due period = if nat_lt time due then None else worded 0 period

-- what tmr_first answers: the first timer, or none
abbrev pub first_answer : Option Row → Option Reply
first_answer found = option_map_or (λ r. done r.id) found (Some (Refused NotFound))

-- what tmr_free answers, by the owner and the caller
abbrev pub free_answer : ℕ → ℕ → Option Reply
free_answer owner client = if owner == client then done 0 else Some (Refused NotOwner)

-- the same, of the timer that is called

abbrev pub tick_of : Option Row → ℕ → Option Reply
tick_of timer ticks = tick_answer (field_in timer 3) ticks

abbrev pub wait_of : Option Row → Option Reply
wait_of timer = timer_wait_answer (field_in timer 3) (field_in timer 4) (field_in timer 1)

abbrev pub skip_of : Option Row → Option Reply
skip_of timer = worded 0 (skipped (field_in timer 3) (field_in timer 4) (field_in timer 1))

abbrev pub free_of : Option Row → ℕ → Option Reply
free_of timer client = free_answer (field_in timer 0) client
