-- Histories of the timer service. Its functions: 1 tmr_create, 2 tmr_tick, 3 tmr_wait, 4 tmr_place, 5 tmr_first, 6 tmr_skip,
-- 7 tmr_free.
use Rattle.std.specs.Prelude.{List, [], ◌∷◌, ◌++◌}
use Rattle.sg_facts.specs.sg_base.declared.value.Value.TheVariants.{Word}
use Rattle.sg_facts.specs.sg_base.declared.call.Call.{Call}
use Rattle.sg_facts.specs.sg_base.declared.reply.Code.TheVariants.{BadState, NotFound, NotOwner, Occupied, TooBig}
use Rattle.sg_facts.specs.declared.entry.Entry.{Entry}
use Rattle.test_histories.specs.Written.{call_of, ok, ok_at, ok_with, refused, entry}

-- no timer is first where there is none; a period of 2 ^ 32 is too big; a tag is taken; no client places a timer; and another client doesn't end it
abbrev pub timer_refusals : List Entry
timer_refusals =
    entry (call_of 1 1 5 0 []) (refused NotFound)
    ∷ entry (call_of 1 2 1 0 (Word 4294967296 ∷ Word 7 ∷ [])) (refused TooBig)
    ∷ entry (call_of 1 3 1 0 (Word 3 ∷ Word 7 ∷ [])) (ok_with 1 3)
    ∷ entry (call_of 1 4 1 0 (Word 2 ∷ Word 7 ∷ [])) (refused Occupied)
    ∷ entry (call_of 1 5 4 1 (Word 9 ∷ [])) (refused BadState)
    ∷ entry (call_of 2 1 7 1 []) (refused NotOwner)
    ∷ []

-- there are two timers, of periods 3 and 5
abbrev pub two_run : List Entry
two_run =
    entry (call_of 1 1 1 0 (Word 3 ∷ Word 7 ∷ [])) (ok_with 1 3)
    ∷ entry (call_of 1 2 1 0 (Word 5 ∷ Word 8 ∷ [])) (ok_with 2 5)
    ∷ []

-- then client 1 waits for the first
abbrev pub waits_for_it : Call
waits_for_it = call_of 1 3 3 1 []

-- client 1 is answered once client 2 has advanced its clock by 3, and it is due at 6 then, before the other; at 13 it is skipped past its
-- clock, by three periods
abbrev pub due : List Entry
due =
    two_run
    ++ entry (call_of 2 1 2 1 (Word 3 ∷ [])) ok
    ∷ entry waits_for_it (ok_with 0 3)
    ∷ entry (call_of 1 4 5 0 []) (ok_at 1)
    ∷ entry (call_of 1 5 2 1 (Word 10 ∷ [])) ok
    ∷ entry (call_of 1 6 6 1 []) (ok_with 0 9)
    ∷ []

-- client 1 is answered before it is due
abbrev pub not_due : List Entry
not_due = two_run ++ entry waits_for_it (ok_with 0 3) ∷ []
