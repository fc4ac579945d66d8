-- Where a timer stands in the orders of its queue.
use Rattle.std.specs.Prelude.{◌-◌, Some}
use Rattle.std.specs.declared.option.Option.{Option}
use Rattle.sg_slots.specs.declared.standing.Standing.{Standing}
use Rattle.sg_timer.specs.declared.timer.Timer.{Timer}

-- a timer by what is left of it and its tag
abbrev pub by_left : Timer → Option Standing
by_left t = Some (record { first = t.due - t.time; second = t.tag })

-- a timer by its tag
abbrev pub by_tag : Timer → Standing
by_tag t = record { first = t.tag; second = 0 }
