-- Histories of the thread service. Its functions: 1 sched_create_thd, 2 sched_yield, 3 sched_sleep, 4 sched_wakeup,
-- 5 sched_wait, 6 sched_next, 7 sched_place, 8 sched_exit.
use Rattle.std.specs.Prelude.{List, [], ◌∷◌, ◌++◌}
use Rattle.sg_facts.specs.sg_base.declared.value.Value.TheVariants.{Word}
use Rattle.sg_facts.specs.sg_base.declared.call.Call.{Call}
use Rattle.sg_facts.specs.sg_base.declared.reply.Code.TheVariants.{BadState, NotFound}
use Rattle.sg_facts.specs.declared.entry.Entry.{Entry}
use Rattle.test_histories.specs.Written.{call_of, ok, ok_at, ok_with, refused, entry}

-- no thread is next where there is none, and none is placed by a client
abbrev pub thread_refusals : List Entry
thread_refusals =
    entry (call_of 1 1 6 0 []) (refused NotFound)
    ∷ entry (call_of 1 2 1 0 (Word 0 ∷ [])) (ok_with 1 1)
    ∷ entry (call_of 1 3 7 1 (Word 9 ∷ [])) (refused BadState)
    ∷ []

-- of three threads the first ends and the second goes to the end of the queue, so the third is next
abbrev pub queue : List Entry
queue =
    entry (call_of 1 1 1 0 (Word 5 ∷ [])) (ok_with 1 1)
    ∷ entry (call_of 1 2 1 0 (Word 5 ∷ [])) (ok_with 2 2)
    ∷ entry (call_of 1 3 1 0 (Word 5 ∷ [])) (ok_with 3 3)
    ∷ entry (call_of 1 4 8 1 []) ok
    ∷ entry (call_of 1 5 2 2 []) (ok_with 0 4)
    ∷ entry (call_of 1 6 6 0 []) (ok_at 3)
    ∷ []

-- a thread is put to sleep
abbrev pub one_sleeps : List Entry
one_sleeps =
    entry (call_of 1 1 1 0 (Word 3 ∷ [])) (ok_with 1 1)
    ∷ entry (call_of 1 2 3 1 []) ok
    ∷ []

-- then client 1 waits for it
abbrev pub waits_for_it : Call
waits_for_it = call_of 1 3 5 1 []

-- client 1 is answered once client 2 has woken the thread
abbrev pub woken : List Entry
woken = one_sleeps ++ entry (call_of 2 1 4 1 []) ok ∷ entry waits_for_it ok ∷ []

-- client 1 is answered while the thread sleeps
abbrev pub not_woken : List Entry
not_woken = one_sleeps ++ entry waits_for_it ok ∷ []
