-- Where a thread stands in the orders of its queue.
use Rattle.std.specs.Prelude.{if◌then◌else◌, None, Some}
use Rattle.std.specs.declared.option.Option.{Option}
use Rattle.sg_slots.specs.declared.standing.Standing.{Standing}
use Rattle.sg_sched.specs.declared.thread.Thread.{Thread}

-- a ready thread by its priority and its rank; one that is asleep isn't in the queue
abbrev pub in_queue : Thread → Option Standing
in_queue t = if t.ready then Some (record { first = t.prio; second = t.rank }) else None

-- any thread by its rank and its priority
abbrev pub by_rank : Thread → Standing
by_rank t = record { first = t.rank; second = t.prio }
