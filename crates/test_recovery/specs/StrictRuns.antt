-- Runs that do not recover, each for one reason alone: a client's own order, the guard, a call that would have been answered, the
-- boot of a held reply, boots that were for nothing, and walks of other tables.
use Rattle.std.specs.Prelude.{ℕ, List, [], ◌∷◌, None, Some, codes}
use Rattle.test_histories.specs.sg_facts.sg_base.declared.call.Call.{Call}
use Rattle.test_histories.specs.sg_facts.sg_base.declared.reply.Code.TheVariants.{BadState, NoDesc}
use Rattle.test_histories.specs.sg_facts.sg_base.declared.reply.Reply.TheVariants.{Refused}
use Rattle.test_histories.specs.sg_facts.declared.entry.Entry.{Entry}
use Rattle.test_histories.specs.sg_facts.declared.outcome.Outcome.TheVariants.{Stopped}
use Rattle.test_histories.specs.sg_facts.declared.tables.WalkLine.{WalkLine}
use Rattle.test_histories.specs.sg_facts.declared.trace.Item.{Item}
use Rattle.test_histories.specs.sg_facts.Laws.{whole}
use Rattle.test_histories.specs.sg_facts.Trace.{Run}
use Rattle.sg_recovery_laws.specs.sg_hist.declared.ended.End.{End}
use Rattle.sg_recovery_laws.specs.sg_hist.declared.ended.End.TheVariants.{Done}
use Rattle.sg_recovery_laws.specs.sg_hist.Recovered.{Stubs}
use Rattle.test_histories.specs.sg_lock.LockFacts.{lock_facts}
use Rattle.test_histories.specs.sg_lock.LockTable.{lock_parts, lock_table}
use Rattle.test_histories.specs.Written.{entry, ok, ok_at, ok_with}
use Rattle.test_recovery.specs.Written.{bare_call, boot, call_with, called, replied, text, walked, word, written}

-- a run of one boot without a stop
abbrev pub in_one_boot : List Item → ℕ → Run
in_one_boot items points = record { boots = boot items None ∷ []; points = points }

-- ---- files: a client's own order. The functions: 1 tsplit, 2 tread, 3 twrite, 4 tseek

abbrev pub split : Call
split = call_with 1 1 1 0 (text (codes "a") ∷ [])

abbrev pub hello : Call
hello = call_with 1 2 3 1 (text (codes "hello") ∷ [])

-- the file is written at its end, and its client then seeks to its front
abbrev pub write_then_seek : List Entry
write_then_seek =
    entry split (ok_at 1)
    ∷ entry hello (ok_with 0 5)
    ∷ entry (call_with 1 3 3 1 (text (codes "AB") ∷ [])) (ok_with 0 2)
    ∷ entry (call_with 1 4 4 1 (word 0 ∷ [])) ok
    ∷ []

-- the seek is served first: the file is "ABllo" in the service, and "helloAB" in the history
abbrev pub seek_before_write : Run
seek_before_write = in_one_boot (
    called split 0 4 (replied (ok_at 1))
    ∷ called hello 1 9 (written (ok_with 0 5) (codes "/a") 0 (codes "hello"))
    ∷ called (call_with 1 4 4 1 (word 0 ∷ [])) 1 13 (replied ok)
    ∷ called (call_with 1 3 3 1 (text (codes "AB") ∷ [])) 1 17 (written (ok_with 0 2) (codes "/a") 0 (codes "AB"))
    ∷ []) 18

-- a client seeks to the front of the file, and then writes there
abbrev pub seek_then_write : List Entry
seek_then_write =
    entry split (ok_at 1)
    ∷ entry hello (ok_with 0 5)
    ∷ entry (call_with 1 3 4 1 (word 0 ∷ [])) ok
    ∷ entry (call_with 1 4 3 1 (text (codes "AB") ∷ [])) (ok_with 0 2)
    ∷ []

-- the write is served first
abbrev pub write_before_seek : Run
write_before_seek = in_one_boot (
    called split 0 4 (replied (ok_at 1))
    ∷ called hello 1 9 (written (ok_with 0 5) (codes "/a") 0 (codes "hello"))
    ∷ called (call_with 1 4 3 1 (text (codes "AB") ∷ [])) 1 14 (written (ok_with 0 2) (codes "/a") 5 (codes "AB"))
    ∷ called (call_with 1 3 4 1 (word 0 ∷ [])) 1 18 (replied ok)
    ∷ []) 18

-- ---- files: the boot of a held reply

-- a client seeks in its file, and another client's file is made and written before the reply is committed
abbrev pub late_seek_history : List Entry
late_seek_history =
    entry split (ok_at 1)
    ∷ entry hello (ok_with 0 5)
    ∷ entry (call_with 2 1 1 0 (text (codes "b") ∷ [])) (ok_at 2)
    ∷ entry (call_with 2 2 3 2 (text (codes "x") ∷ [])) (ok_with 0 1)
    ∷ entry (call_with 1 3 4 1 (word 0 ∷ [])) ok
    ∷ []

-- the seek is served in the first boot, and its reply, which was held there, is committed in the second
abbrev pub late_seek : Run
late_seek = record {
  boots =
      boot (
      called split 0 4 (replied (ok_at 1))
      ∷ called hello 1 9 (written (ok_with 0 5) (codes "/a") 0 (codes "hello"))
      ∷ called (call_with 1 3 4 1 (word 0 ∷ [])) 1 13 (replied ok)
      ∷ []) (Some 14)
      ∷ boot (
      called (call_with 2 1 1 0 (text (codes "b") ∷ [])) 0 18 (replied (ok_at 1))
      ∷ called (call_with 2 2 3 2 (text (codes "x") ∷ [])) 1 23 (written (ok_with 0 1) (codes "/b") 0 (codes "x"))
      ∷ []) None
      ∷ [];
  points = 24;
}

-- it reads in place of the seek
abbrev pub late_read_history : List Entry
late_read_history =
    entry split (ok_at 1)
    ∷ entry hello (ok_with 0 5)
    ∷ entry (call_with 2 1 1 0 (text (codes "b") ∷ [])) (ok_at 2)
    ∷ entry (call_with 2 2 3 2 (text (codes "x") ∷ [])) (ok_with 0 1)
    ∷ entry (call_with 1 3 2 1 (word 8 ∷ [])) (ok_with 0 0)
    ∷ []

-- so is the read
abbrev pub late_read : Run
late_read = record {
  boots =
      boot (
      called split 0 4 (replied (ok_at 1))
      ∷ called hello 1 9 (written (ok_with 0 5) (codes "/a") 0 (codes "hello"))
      ∷ called (call_with 1 3 2 1 (word 8 ∷ [])) 1 13 (replied (ok_with 0 0))
      ∷ []) (Some 14)
      ∷ boot (
      called (call_with 2 1 1 0 (text (codes "b") ∷ [])) 0 18 (replied (ok_at 1))
      ∷ called (call_with 2 2 3 2 (text (codes "x") ∷ [])) 1 23 (written (ok_with 0 1) (codes "/b") 0 (codes "x"))
      ∷ []) None
      ∷ [];
  points = 24;
}

-- ---- locks: the guard. The functions: 1 lock_alloc, 2 lock_take, 3 lock_release, 4 lock_free

abbrev pub alloc : Call
alloc = bare_call 1 1 1 0

-- a free lock is released, which the guard refuses
abbrev pub free_released : List Entry
free_released = entry alloc (ok_at 1) ∷ entry (bare_call 1 2 3 1) (Refused BadState) ∷ []

-- the service was asked for it, and stopped
abbrev pub refused_was_asked : Run
refused_was_asked = record {
  boots = boot (called alloc 0 4 (replied (ok_at 1)) ∷ called (bare_call 1 2 3 1) 1 7 Stopped ∷ []) (Some 7) ∷ [];
  points = 7;
}

-- the lock was rebuilt for it
abbrev pub rebuilt_for_refused : Run
rebuilt_for_refused = record {
  boots =
      boot (called alloc 0 4 (replied (ok_at 1)) ∷ []) (Some 5)
      ∷ boot (walked 1 1 1 (bare_call 1 0 1 0) 0 9 (replied (ok_at 1)) ∷ []) None
      ∷ [];
  points = 9;
}

-- ---- locks and events: a stop within a call that would have been answered, at one of its points

-- a lock is made and taken
abbrev pub one_taken : List Entry
one_taken = entry alloc (ok_at 1) ∷ entry (bare_call 1 2 2 1) ok ∷ []

-- another client's take, which would have to wait
abbrev pub other_take : Call
other_take = bare_call 2 1 2 1

-- the service stopped in it
abbrev pub stopped_where_blocked : Run
stopped_where_blocked = record {
  boots =
      boot (
      called alloc 0 4 (replied (ok_at 1))
      ∷ called (bare_call 1 2 2 1) 1 8 (replied ok)
      ∷ called other_take 1 11 Stopped
      ∷ []) (Some 11)
      ∷ [];
  points = 11;
}

-- its owner's second take, which would be refused
abbrev pub second_take : Call
second_take = bare_call 1 3 2 1

-- the service stopped in it at a point that only an Ok has
abbrev pub refusal_stopped_late : Run
refusal_stopped_late = record {
  boots =
      boot (
      called alloc 0 4 (replied (ok_at 1))
      ∷ called (bare_call 1 2 2 1) 1 8 (replied ok)
      ∷ called second_take 1 12 Stopped
      ∷ []) (Some 12)
      ∷ [];
  points = 12;
}

-- its owner's call to free it, which would be refused too
abbrev pub free_of_taken : Call
free_of_taken = bare_call 1 3 4 1

abbrev pub free_stopped_late : Run
free_stopped_late = record {
  boots =
      boot (
      called alloc 0 4 (replied (ok_at 1))
      ∷ called (bare_call 1 2 2 1) 1 8 (replied ok)
      ∷ called free_of_taken 1 12 Stopped
      ∷ []) (Some 12)
      ∷ [];
  points = 12;
}

-- an event is made
abbrev pub one_event : List Entry
one_event = entry alloc (ok_at 1) ∷ []

-- a wait for it, which would block
abbrev pub first_wait : Call
first_wait = bare_call 1 2 2 1

-- the service stopped in it
abbrev pub wait_stopped : Run
wait_stopped = record {
  boots = boot (called alloc 0 4 (replied (ok_at 1)) ∷ called first_wait 1 7 Stopped ∷ []) (Some 7) ∷ [];
  points = 7;
}

-- ---- locks: boots

-- nothing was asked, and there was no boot
abbrev pub no_boot : Run
no_boot = record { boots = []; points = 0 }

-- a call that the guard refuses, the first of all
abbrev pub refused_at_once : List Entry
refused_at_once = entry (bare_call 1 1 3 1) (Refused NoDesc) ∷ []

-- the lock is made
abbrev pub one_made : List Entry
one_made = entry alloc (ok_at 1) ∷ []

abbrev pub one_made_ends : List (ℕ × End)
one_made_ends = (1, Done) ∷ []

-- the service stops, and is booted again though nobody calls it
abbrev pub empty_boot_more : Run
empty_boot_more = record {
  boots = boot (called alloc 0 4 (replied (ok_at 1)) ∷ []) (Some 5) ∷ boot [] None ∷ [];
  points = 5;
}

-- it stops before it is used again, and is booted once more
abbrev pub two_boots_more : Run
two_boots_more = record {
  boots = boot (called alloc 0 4 (replied (ok_at 1)) ∷ []) (Some 5) ∷ boot [] (Some 6) ∷ boot [] None ∷ [];
  points = 6;
}

-- it stops, and that is all
abbrev pub made_and_stopped : Run
made_and_stopped = record { boots = boot (called alloc 0 4 (replied (ok_at 1)) ∷ []) (Some 5) ∷ []; points = 5 }

-- ---- locks: walks of other tables

-- a walk that takes and releases, though no interface of locks rebuilds a free one so
abbrev pub long_walks : List WalkLine
long_walks =
    record { made = 1; state = 1; mask = 0; walk = 1 ∷ 2 ∷ 3 ∷ [] }
    ∷ record { made = 1; state = 2; mask = 1; walk = 1 ∷ 2 ∷ [] }
    ∷ []

abbrev pub long_stubs : Stubs
long_stubs = record { interface = whole lock_facts; ask = lock_table; parts = lock_parts; walks = long_walks }

-- a line twice
abbrev pub double_walks : List WalkLine
double_walks =
    record { made = 1; state = 1; mask = 0; walk = 1 ∷ [] }
    ∷ record { made = 1; state = 1; mask = 0; walk = 1 ∷ [] }
    ∷ record { made = 1; state = 2; mask = 1; walk = 1 ∷ 2 ∷ [] }
    ∷ []

abbrev pub double_stubs : Stubs
double_stubs = record { interface = whole lock_facts; ask = lock_table; parts = lock_parts; walks = double_walks }
