-- The services: the facts of each, its standard interface, the calls of its setup, and its group of calls. What stands in the specs of each
-- is passed on from here.
use Rattle.std.specs.Prelude.{ℕ, ◌+◌, ◌-◌, ◌*◌, ◌%◌, ◌^◌, List, [], ◌∷◌, ◌++◌, codes, map, take}
use Rattle.std.specs.Fmt.{decimal}
use Rattle.sg_event.specs.EventFacts.{event_facts}
use Rattle.sg_event.specs.EventTable.{event_parts, event_table}
use Rattle.sg_facts.specs.Facts.{Facts}
use Rattle.sg_facts.specs.Interface.{Declared}
use Rattle.sg_facts.specs.Laws.{whole}
use Rattle.sg_load.specs.declared.kind.ServiceKind.{ServiceKind}
use Rattle.sg_load.specs.declared.kind.ServiceKind.TheVariants.{Locks, Events, Pages, Files, Threads, Timers}
use Rattle.sg_lock.specs.LockFacts.{lock_facts}
use Rattle.sg_lock.specs.LockTable.{lock_parts, lock_table}
use Rattle.sg_mm.specs.MmFacts.{mm_facts}
use Rattle.sg_mm.specs.MmTable.{mm_parts, mm_table}
use Rattle.sg_plain.specs.Answering.{Answering}
use Rattle.sg_plain.specs.sg_script.declared.script.Arg.{Arg}
use Rattle.sg_plain.specs.sg_script.declared.script.Arg.TheVariants.{Number, Text, Back}
use Rattle.sg_plain.specs.sg_script.declared.script.ScriptCall.{ScriptCall}
use Rattle.sg_ramfs.specs.RamfsFacts.{ramfs_facts}
use Rattle.sg_ramfs.specs.RamfsTable.{ramfs_parts, ramfs_table}
use Rattle.sg_sched.specs.SchedFacts.{sched_facts}
use Rattle.sg_sched.specs.SchedTable.{sched_parts, sched_table}
use Rattle.sg_timer.specs.TimerFacts.{timer_facts}
use Rattle.sg_timer.specs.TimerTable.{timer_parts, timer_table}
pub use Rattle.sg_event.specs as sg_event
pub use Rattle.sg_lock.specs as sg_lock
pub use Rattle.sg_mm.specs as sg_mm
pub use Rattle.sg_ramfs.specs as sg_ramfs
pub use Rattle.sg_sched.specs as sg_sched
pub use Rattle.sg_timer.specs as sg_timer

-- ---- services

-- the service of a kind
abbrev pub answering : ServiceKind → Answering
answering Locks = record { facts = lock_facts; ask = lock_table; parts = lock_parts }
answering Events = record { facts = event_facts; ask = event_table; parts = event_parts }
answering Pages = record { facts = mm_facts; ask = mm_table; parts = mm_parts }
answering Files = record { facts = ramfs_facts; ask = ramfs_table; parts = ramfs_parts }
answering Threads = record { facts = sched_facts; ask = sched_table; parts = sched_parts }
answering Timers = record { facts = timer_facts; ask = timer_table; parts = timer_parts }

-- the services that are played
abbrev pub played_services : List Answering
played_services = map answering (Locks ∷ Events ∷ Pages ∷ Files ∷ Threads ∷ Timers ∷ [])

-- ---- interfaces

-- the facts of a service
abbrev pub facts_by : ServiceKind → Facts
facts_by kind = (answering kind).facts

-- the standard interface of a service: it declares each function that version 1 of its text declares, with all transitions and
-- recover steps of these. So of events it leaves out the fifth function, evt_take, which only version 2 of the text declares
abbrev pub standard : ServiceKind → Declared
standard Events = record (whole event_facts) { declared = 2 ^ 4 - 1; moves = take 3 event_facts.moves }
standard kind = whole (facts_by kind)

-- ---- calls

-- a call of a function
abbrev pub call : ℕ → List Arg → ScriptCall
call fun args = record { fun = fun; args = args }

-- the number of the calls of the setup: it makes 16 locks by lock_alloc, or 16 events by evt_split, each of them function 1
abbrev pub setup_count : ServiceKind → ℕ
setup_count kind = elim kind [ Locks ↦ 16 | Events ↦ 16 | _ ↦ 0 ]

-- a group of a service: its client, the number of its first call among the client's calls, its own number among the client's groups,
-- both from 1, and the number that was drawn for it. There are 16 locks, 16 events, 64 pages of 4,096 bytes, 16 files, 8 priorities, and 16 periods
abbrev pub group_of : ServiceKind → ℕ → ℕ → ℕ → ℕ → List ScriptCall
-- a lock is taken by lock_take, function 2, and released by lock_release, 3
group_of Locks client first group u = let lock = 1 + u % 16 in call 2 (Number lock ∷ []) ∷ call 3 (Number lock ∷ []) ∷ []
-- 1 is added to the count of an event by evt_trigger, function 3, and it is waited for by evt_wait, 2
group_of Events client first group u = let event = 1 + u % 16 in call 3 (Number event ∷ Number 1 ∷ []) ∷ call 2 (Number event ∷ []) ∷ []
-- a page is mapped by mman_get_page, function 1; an alias of it is made by mman_alias_page, 2, in a space that is 100 above the client's
-- number, so that none is a client's own; the page is found by mman_find, 4, and released by mman_release_page, 3
group_of Pages client first group u =
    let addr = 4096 * (u % 64) in
    call 1 (Number addr ∷ []) ∷ call 2 (Back first ∷ Number (100 + client) ∷ Number addr ∷ [])
    ∷ call 4 (Number client ∷ Number addr ∷ []) ∷ call 3 (Back first ∷ []) ∷ []
-- a file is opened as a root by tsplit, function 1; it is written by twrite, 3; tseek, 4, goes back to its start; at most 64 bytes are read
-- by tread, 2; and it is closed by trelease, 5
group_of Files client first group u =
    call 1 (Number 0 ∷ Text (codes "f" ++ decimal (u % 16)) ∷ [])
    ∷ call 3 (Back first ∷ Text (decimal client ++ (codes ":" ++ decimal group)) ∷ [])
    ∷ call 4 (Back first ∷ Number 0 ∷ []) ∷ call 2 (Back first ∷ Number 64 ∷ []) ∷ call 5 (Back first ∷ []) ∷ []
-- a thread of a priority, from 0, is made by sched_create_thd, function 1, and yielded by sched_yield, 2; sched_next, 6, is asked which is
-- next; the thread is put to sleep by sched_sleep, 3, and ended by sched_exit, 8
group_of Threads client first group u =
    call 1 (Number (u % 8) ∷ []) ∷ call 2 (Back first ∷ []) ∷ call 6 [] ∷ call 3 (Back first ∷ []) ∷ call 8 (Back first ∷ []) ∷ []
-- a timer of a period, from 1, with the client as its tag, is made by tmr_create, function 1, and advanced by as many ticks by tmr_tick, 2,
-- so that it is due; tmr_wait, 3, waits for it; it is skipped by tmr_skip, 6, and ended by tmr_free, 7
group_of Timers client first group u =
    let period = 1 + u % 16 in
    call 1 (Number period ∷ Number client ∷ []) ∷ call 2 (Back first ∷ Number period ∷ [])
    ∷ call 3 (Back first ∷ []) ∷ call 6 (Back first ∷ []) ∷ call 7 (Back first ∷ []) ∷ []

-- the number of calls of a group of a service
abbrev pub group_size : ServiceKind → ℕ
group_size kind = elim kind [ Locks ↦ 2 | Events ↦ 2 | Pages ↦ 4 | Files ↦ 5 | Threads ↦ 5 | Timers ↦ 5 ]
