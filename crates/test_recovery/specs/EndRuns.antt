-- Runs that end as none may, or whose calls are under way at the wrong time; and one beside them that ended well.
use Rattle.std.specs.Prelude.{ℕ, List, [], ◌∷◌, ◌++◌, None, Some, codes}
use Rattle.test_histories.specs.sg_facts.sg_base.declared.call.Call.{Call}
use Rattle.test_histories.specs.sg_facts.sg_base.declared.reply.Code.TheVariants.{Held, NoDesc}
use Rattle.test_histories.specs.sg_facts.sg_base.declared.reply.Reply.TheVariants.{Refused}
use Rattle.test_histories.specs.sg_facts.declared.entry.Entry.{Entry}
use Rattle.test_histories.specs.sg_facts.declared.outcome.Outcome.TheVariants.{Blocks, Stopped}
use Rattle.test_histories.specs.sg_facts.declared.trace.Item.{Item}
use Rattle.test_histories.specs.sg_facts.declared.trace.Tag.TheVariants.{Load}
use Rattle.test_histories.specs.sg_facts.sg_base.Counts.{last_count}
use Rattle.test_histories.specs.sg_facts.Trace.{Boot, Run}
use Rattle.sg_recovery_laws.specs.sg_hist.declared.ended.End.{End}
use Rattle.sg_recovery_laws.specs.sg_hist.declared.ended.End.TheVariants.{Blocked, Done}
use Rattle.test_histories.specs.Written.{entry, ok, ok_at, ok_with}
use Rattle.test_recovery.specs.StrictRuns.{alloc, in_one_boot, other_take, second_take}
use Rattle.test_recovery.specs.Written.{bare_call, boot, call_with, called, replied, text, walked, word, written}

-- ---- who waits

-- client 2 waits in its take
abbrev pub other_waits : List (ℕ × End)
other_waits = (1, Done) ∷ (2, Blocked other_take) ∷ []

-- client 1 makes a lock and takes it: the service was never asked for client 2's take
abbrev pub waits_unasked : Run
waits_unasked = in_one_boot (called alloc 0 4 (replied (ok_at 1)) ∷ called (bare_call 1 2 2 1) 1 8 (replied ok) ∷ []) 9

-- the take had to wait
abbrev pub waits_asked : Run
waits_asked = in_one_boot (called alloc 0 4 (replied (ok_at 1)) ∷ called (bare_call 1 2 2 1) 1 8 (replied ok) ∷ called other_take 1 10 Blocks ∷ []) 10

-- client 1 takes its lock twice
abbrev pub taken_and_held : List Entry
taken_and_held = entry alloc (ok_at 1) ∷ entry (bare_call 1 2 2 1) ok ∷ entry second_take (Refused Held) ∷ []

-- the take had to wait in the first boot; the second, in which the lock is rebuilt for client 1, never heard of it
abbrev pub slept_over_reboot : Run
slept_over_reboot = record {
  boots =
      boot (called alloc 0 4 (replied (ok_at 1)) ∷ called (bare_call 1 2 2 1) 1 8 (replied ok) ∷ called other_take 1 10 Blocks ∷ []) (Some 11)
      ∷ boot (
      walked 1 1 1 (bare_call 1 0 1 0) 0 15 (replied (ok_at 1))
      ∷ walked 1 2 1 (bare_call 1 0 2 1) 1 18 (replied ok)
      ∷ called second_take 1 20 (replied (Refused Held))
      ∷ []) None
      ∷ [];
  points = 21;
}

-- ---- stops

-- client 1 makes a lock and takes it, and is done; client 2's take has to wait
abbrev pub until_wait : List Item
until_wait = called alloc 0 4 (replied (ok_at 1)) ∷ called (bare_call 1 2 2 1) 1 8 (replied ok) ∷ called other_take 1 10 Blocks ∷ []

-- the lock is rebuilt for client 2, whose take has to wait again
abbrev pub waits_once_more : List Item
waits_once_more = walked 1 1 2 (bare_call 1 0 1 0) 0 15 (replied (ok_at 1)) ∷ walked 1 2 2 (bare_call 1 0 2 1) 1 18 (replied ok) ∷ called other_take 1 19 Blocks ∷ []

-- no call asks, and the service stops all the same
abbrev pub waits_again : Run
waits_again = record { boots = boot until_wait (Some 11) ∷ boot waits_once_more None ∷ []; points = 19 }

-- the service stops as it is about to be used for client 2's take, which has to wait in the next boot
abbrev pub stopped_idle : Run
stopped_idle = record {
  boots =
      boot (called alloc 0 4 (replied (ok_at 1)) ∷ called (bare_call 1 2 2 1) 1 8 (replied ok) ∷ []) (Some 10)
      ∷ boot (
      walked 1 1 2 (bare_call 1 0 1 0) 0 14 (replied (ok_at 1))
      ∷ walked 1 2 2 (bare_call 1 0 2 1) 1 17 (replied ok)
      ∷ called other_take 1 18 Blocks
      ∷ []) None
      ∷ [];
  points = 18;
}

-- ---- the last boot

-- the service stops at a point that no call asked
abbrev pub stopped_unasked : Run
stopped_unasked = record { boots = boot (called alloc 0 4 (replied (ok_at 1)) ∷ []) (Some 6) ∷ []; points = 6 }

-- it stops once the lock is made, is booted, and stops again before it is used
abbrev pub stopped_unused : Run
stopped_unused = record { boots = boot (called alloc 0 4 (replied (ok_at 1)) ∷ []) (Some 5) ∷ boot [] (Some 6) ∷ []; points = 6 }

-- ---- replies that were lost

-- client 1 seeks to where its file is, and reads it
abbrev pub sought_and_read : List Entry
sought_and_read =
    entry (call_with 1 1 1 0 (text (codes "a") ∷ [])) (ok_at 1)
    ∷ entry (call_with 1 2 4 1 (word 0 ∷ [])) ok
    ∷ entry (call_with 1 3 2 1 (word 8 ∷ [])) (ok_with 0 0)
    ∷ []

abbrev pub sought_ends : List (ℕ × End)
sought_ends = (1, Done) ∷ []

-- the seek is asked for twice in one boot, where its first reply was still held
abbrev pub held_asked_twice : Run
held_asked_twice = in_one_boot (
    called (call_with 1 1 1 0 (text (codes "a") ∷ [])) 0 4 (replied (ok_at 1))
    ∷ called (call_with 1 2 4 1 (word 0 ∷ [])) 1 8 (replied ok)
    ∷ called (call_with 1 2 4 1 (word 0 ∷ [])) 1 11 (replied ok)
    ∷ called (call_with 1 3 2 1 (word 8 ∷ [])) 1 14 (replied (ok_with 0 0))
    ∷ []) 15

-- client 1's seek, whose reply is held while client 2 opens its file
abbrev pub held_seek : Call
held_seek = call_with 1 2 4 1 (word 0 ∷ [])

-- both files are opened, and the seek is no entry
abbrev pub both_opened : List Entry
both_opened = entry (call_with 1 1 1 0 (text (codes "a") ∷ [])) (ok_at 1) ∷ entry (call_with 2 1 1 0 (text (codes "b") ∷ [])) (ok_at 2) ∷ []

-- the seek is an entry after them
abbrev pub sought_at_last : List Entry
sought_at_last = both_opened ++ entry held_seek ok ∷ []

-- the service stops right after the commit of client 2's file
abbrev pub stopped_after : Run
stopped_after = record {
  boots = boot (
      called (call_with 1 1 1 0 (text (codes "a") ∷ [])) 0 4 (replied (ok_at 1))
      ∷ called held_seek 1 8 (replied ok)
      ∷ called (call_with 2 1 1 0 (text (codes "b") ∷ [])) 0 12 (replied (ok_at 2))
      ∷ []) (Some 13) ∷ [];
  points = 13;
}

-- ---- the end of the count of points

-- nothing was asked, and all points that can be counted were
abbrev pub counted_for_nothing : Run
counted_for_nothing = in_one_boot [] last_count

-- a lock is made where one point is left to be counted
abbrev pub made_at_the_end : List Boot
made_at_the_end = boot (called alloc 0 last_count (replied (ok_at 1)) ∷ []) None ∷ []

-- ---- refusals by the guard

-- client 2's take is refused before its lock is made
abbrev pub refused_early : List Entry
refused_early = entry (bare_call 2 1 2 1) (Refused NoDesc) ∷ entry alloc (ok_at 1) ∷ []

-- the service is asked for it once the lock is there
abbrev pub asked_late : Run
asked_late = record {
  boots = boot (called alloc 0 4 (replied (ok_at 1)) ∷ called (bare_call 2 1 2 1) 1 7 Stopped ∷ []) (Some 7) ∷ [];
  points = 7;
}

-- client 2 takes lock 1 where client 1 owns it, after its call on a lock that isn't there
abbrev pub take_after_refusal : Call
take_after_refusal = bare_call 2 2 2 1

abbrev pub refused_late : List Entry
refused_late = entry alloc (ok_at 1) ∷ entry (bare_call 1 2 2 1) ok ∷ entry (bare_call 2 1 4 5) (Refused NoDesc) ∷ []

-- the service is asked for the take before client 1 owns the lock, and so before client 2's earlier call was refused
abbrev pub asked_early : Run
asked_early = record {
  boots =
      boot (called alloc 0 4 (replied (ok_at 1)) ∷ called take_after_refusal 1 7 Stopped ∷ []) (Some 7)
      ∷ boot (
      walked 1 1 1 (bare_call 1 0 1 0) 0 11 (replied (ok_at 1))
      ∷ called (bare_call 1 2 2 1) 1 14 (replied ok)
      ∷ called take_after_refusal 1 16 Blocks
      ∷ []) None
      ∷ [];
  points = 16;
}

-- ---- loads

-- a client writes into its file, and reads it at its end
abbrev pub written_and_read : List Entry
written_and_read =
    entry (call_with 1 1 1 0 (text (codes "a") ∷ [])) (ok_at 1)
    ∷ entry (call_with 1 2 3 1 (text (codes "hi") ∷ [])) (ok_with 0 2)
    ∷ entry (call_with 1 3 2 1 (word 8 ∷ [])) (ok_with 0 0)
    ∷ []

-- the item of the load shows the client's read
abbrev pub load_of_read : Item
load_of_read = record {
  tag = Load (codes "/a") 1;
  shown = call_with 1 3 2 1 (word 8 ∷ []);
  real = 1;
  points = 15;
  outcome = written ok (codes "/a") 0 (codes "hi");
}

abbrev pub load_shows_a_call : Run
load_shows_a_call = record {
  boots =
      boot (
      called (call_with 1 1 1 0 (text (codes "a") ∷ [])) 0 4 (replied (ok_at 1))
      ∷ called (call_with 1 2 3 1 (text (codes "hi") ∷ [])) 1 9 (written (ok_with 0 2) (codes "/a") 0 (codes "hi"))
      ∷ []) (Some 10)
      ∷ boot (
      walked 1 1 1 (call_with 1 0 1 0 (text (codes "a") ∷ [])) 0 14 (replied (ok_at 1))
      ∷ walked 1 2 1 (call_with 1 0 4 1 (word 2 ∷ [])) 1 17 (replied ok)
      ∷ load_of_read
      ∷ called (call_with 1 3 2 1 (word 8 ∷ [])) 1 21 (replied (ok_with 0 0))
      ∷ []) None
      ∷ [];
  points = 21;
}
