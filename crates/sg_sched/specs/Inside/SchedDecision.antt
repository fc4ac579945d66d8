-- What the thread service decides.
use Rattle.std.specs.Prelude.{ℕ, true, false, if◌then◌else◌, None, Some}
use Rattle.std.specs.declared.option.Option.{Option}
use Rattle.sg_facts.specs.sg_base.declared.reply.Code.TheVariants.{NotFound}
use Rattle.sg_slots.specs.declared.decision.Decision.{Decision}
use Rattle.sg_slots.specs.declared.decision.Decision.TheVariants.{Refuse, Block, Make, Set, Keep}
use Rattle.sg_sched.specs.declared.thread.Thread.{Thread}

-- a client makes a thread of a priority, with a rank
abbrev pub on_create : ℕ → ℕ → ℕ → Decision Thread
on_create client prio rank = Make (record { creator = client; prio = prio; rank = rank; ready = true }) (Some rank)

-- a thread goes to the end of the queue, and its rank is told
abbrev pub on_yield : Thread → ℕ → Decision Thread
on_yield t rank = Set (record t { rank = rank }) (Some rank)

-- a thread is put to sleep, or woken

-- a thread is put to sleep: it isn't ready
abbrev pub on_sleep : Thread → Decision Thread
on_sleep t = Set (record t { ready = false }) None

-- a thread is woken: it is ready
abbrev pub on_wakeup : Thread → Decision Thread
on_wakeup t = Set (record t { ready = true }) None

-- the caller waits until a thread is ready
abbrev pub on_thread_wait : Thread → Decision Thread
on_thread_wait t = if t.ready then Keep 0 None else Block

-- the thread that is next is told
abbrev pub on_next : Option ℕ → Decision Thread
on_next None = Refuse NotFound
on_next (Some id) = Keep id None

-- a thread gets a rank
abbrev pub on_place : Thread → ℕ → Decision Thread
on_place t rank = Set (record t { rank = rank }) None
