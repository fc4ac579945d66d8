-- Histories of the event service. Its functions: 1 evt_split, 2 evt_wait, 3 evt_trigger, 4 evt_free.
use Rattle.std.specs.Prelude.{List, [], ◌∷◌, ◌++◌}
use Rattle.sg_facts.specs.sg_base.declared.value.Value.TheVariants.{Word}
use Rattle.sg_facts.specs.sg_base.declared.call.Call.{Call}
use Rattle.sg_facts.specs.sg_base.declared.reply.Code.TheVariants.{Overflow}
use Rattle.sg_facts.specs.declared.entry.Entry.{Entry}
use Rattle.test_histories.specs.Written.{call_of, ok, ok_at, refused, entry}

-- a count comes to the greatest 32-bit number and no further
abbrev pub overflow : List Entry
overflow =
    entry (call_of 1 1 1 0 []) (ok_at 1)
    ∷ entry (call_of 1 2 3 1 (Word 4294967295 ∷ [])) ok
    ∷ entry (call_of 1 3 3 1 (Word 1 ∷ [])) (refused Overflow)
    ∷ []

-- client 1 triggers an event once, and client 2 waits for it once
abbrev pub one_waits : List Entry
one_waits =
    entry (call_of 1 1 1 0 []) (ok_at 1)
    ∷ entry (call_of 1 2 3 1 (Word 1 ∷ [])) ok
    ∷ entry (call_of 2 1 2 1 []) ok
    ∷ []

-- then client 2 waits for it again
abbrev pub waits_again : Call
waits_again = call_of 2 2 2 1 []

-- the second wait is answered without a second trigger
abbrev pub both_waits : List Entry
both_waits = one_waits ++ entry waits_again ok ∷ []
