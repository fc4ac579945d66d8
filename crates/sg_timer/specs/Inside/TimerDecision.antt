-- What the timer service decides.
use Rattle.std.specs.Prelude.{ℕ, ◌+◌, ◌==◌, Bool, nat_lt, if◌then◌else◌, None, Some}
use Rattle.std.specs.declared.option.Option.{Option}
use Rattle.sg_facts.specs.sg_base.declared.reply.Code.TheVariants.{NotFound, NotOwner, Occupied, Overflow, TooBig}
use Rattle.sg_slots.specs.declared.decision.Decision.{Decision}
use Rattle.sg_slots.specs.declared.decision.Decision.TheVariants.{Refuse, Block, Enlist, Set, Keep, Remove}
use Rattle.sg_timer.specs.declared.timer.Timer.{Timer}
use Rattle.sg_timer.specs.TimerTable.{most_ticks, skipped}

-- a client's new timer, of a period and a tag
abbrev pub new_timer : ℕ → ℕ → ℕ → Timer
new_timer client period tag = record { owner = client; period = period; tag = tag; time = 0; due = period }

-- a client makes a timer of a period and a tag, where the period isn't too great and the tag isn't taken
abbrev pub on_create : ℕ → ℕ → ℕ → Bool → Decision Timer
on_create client period tag taken =
    if nat_lt most_ticks period then Refuse TooBig else if taken then Refuse Occupied else Enlist (new_timer client period tag) (Some period)

-- the clock of a timer is advanced, where it doesn't pass the greatest time
abbrev pub on_tick : Timer → ℕ → Decision Timer
on_tick t ticks = if nat_lt most_ticks (t.time + ticks) then Refuse Overflow else Set (record t { time = t.time + ticks }) None

-- the caller waits until a timer is due, and it is put off by its period
abbrev pub on_timer_wait : Timer → Decision Timer
on_timer_wait t = if nat_lt t.time t.due then Block else Set (record t { due = t.due + t.period }) (Some t.period)

-- it is set when a timer is due
abbrev pub on_place : Timer → ℕ → Decision Timer
on_place t due = Set (record t { due = due }) None

-- the first timer is told
abbrev pub on_first : Option ℕ → Decision Timer
on_first None = Refuse NotFound
on_first (Some id) = Keep id None

-- a timer is put off past its time
abbrev pub on_skip : Timer → Decision Timer
on_skip t = Set (record t { due = t.due + skipped t.time t.due t.period }) (Some (skipped t.time t.due t.period))

-- a timer is ended by its owner
abbrev pub on_free : Timer → ℕ → Decision Timer
on_free t client = if t.owner == client then Remove else Refuse NotOwner
