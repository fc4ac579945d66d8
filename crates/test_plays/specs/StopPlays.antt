-- Scripts with stops, and what is wrong with some of their runs. The runs are those of `test_recovery`.
use Rattle.std.specs.Prelude.{List, [], ◌∷◌, None}
use Rattle.test_recovery.specs.sg_facts.declared.entry.Entry.{Entry}
use Rattle.test_recovery.specs.sg_facts.declared.outcome.Outcome.TheVariants.{Blocks}
use Rattle.test_recovery.specs.sg_facts.declared.trace.Item.{Item}
use Rattle.test_recovery.specs.sg_facts.Trace.{Run}
use Rattle.sg_plain.specs.sg_script.declared.script.Arg.TheVariants.{Number, Back}
use Rattle.sg_plain.specs.sg_script.declared.script.Script.{Script}
use Rattle.test_recovery.specs.test_histories.Written.{entry, ok, ok_at}
use Rattle.test_plays.specs.LockPlays.{four_lock_calls, made}
use Rattle.test_recovery.specs.Written.{bare_call, boot, call_with, called, replied, word}

-- ---- locks. The functions: 1 lock_alloc, 2 lock_take, 3 lock_release, 4 lock_free

-- client 1 makes a lock, takes it, releases it and frees it, and the service stops once the take is committed
abbrev pub stop_after_take_script : Script
stop_after_take_script = record four_lock_calls { stops = 9 ∷ [] }

-- it stops before the take is committed
abbrev pub stop_before_storage_script : Script
stop_before_storage_script = record four_lock_calls { stops = 8 ∷ [] }

-- it stops again while the lock is rebuilt
abbrev pub stop_in_walk_script : Script
stop_in_walk_script = record four_lock_calls { stops = 9 ∷ 15 ∷ [] }

-- the lock is freed and taken in the other order
abbrev pub calls_exchanged : List Entry
calls_exchanged =
    entry (bare_call 1 1 1 0) (ok_at 1)
    ∷ entry (bare_call 1 2 4 1) ok
    ∷ []

-- its client makes no release
abbrev pub call_left_out : List Entry
call_left_out =
    entry (bare_call 1 1 1 0) (ok_at 1)
    ∷ entry (bare_call 1 2 2 1) ok
    ∷ entry (bare_call 1 3 4 1) ok
    ∷ []

-- ---- events. The functions: 1 evt_split, 2 evt_wait, 3 evt_trigger, 4 evt_free

-- client 1 makes an event and triggers it, and client 2 then waits for it twice; the service stops once the trigger is committed
abbrev pub trigger_not_twice_script : Script
trigger_not_twice_script = record {
  setup = [];
  clients =
      (1, made 1 [] ∷ made 3 (Back 1 ∷ Number 1 ∷ []) ∷ [])
      ∷ (2, made 2 (Number 1 ∷ []) ∷ made 2 (Number 1 ∷ []) ∷ [])
      ∷ [];
  schedule = 1 ∷ 1 ∷ 1 ∷ 1 ∷ [];
  stops = 9 ∷ [];
}

-- the event is made in the setup, client 2 waits for it, and the service stops before client 1 triggers it
abbrev pub blocked_redone_script : Script
blocked_redone_script = record {
  setup = made 1 [] ∷ [];
  clients = (1, made 3 (Back 1 ∷ Number 1 ∷ []) ∷ []) ∷ (2, made 2 (Number 1 ∷ []) ∷ []) ∷ [];
  schedule = 2 ∷ [];
  stops = 7 ∷ [];
}

-- client 2 waits for an event, and what client 1 triggers is taken by client 3 before client 2 is asked again
abbrev pub taken_by_another_script : Script
taken_by_another_script = record {
  setup = [];
  clients =
      (1, made 1 [] ∷ made 3 (Back 1 ∷ Number 1 ∷ []) ∷ [])
      ∷ (2, made 2 (Number 1 ∷ []) ∷ [])
      ∷ (3, made 2 (Number 1 ∷ []) ∷ [])
      ∷ [];
  schedule = 1 ∷ 1 ∷ 2 ∷ 1 ∷ 3 ∷ 3 ∷ [];
  stops = [];
}

abbrev pub taken_by_another_history : List Entry
taken_by_another_history =
    entry (bare_call 1 1 1 0) (ok_at 1)
    ∷ entry (call_with 1 2 3 1 (word 1 ∷ [])) ok
    ∷ entry (bare_call 3 1 2 1) ok
    ∷ []

abbrev waits : Item
waits = called (bare_call 2 1 2 1) 1 6 Blocks

-- it waits again, as it was woken in between
abbrev pub taken_by_another : Run
taken_by_another = record {
  boots =
      boot (
      called (bare_call 1 1 1 0) 0 4 (replied (ok_at 1))
      ∷ waits
      ∷ called (call_with 1 2 3 1 (word 1 ∷ [])) 1 9 (replied ok)
      ∷ called (bare_call 3 1 2 1) 1 13 (replied ok)
      ∷ called (bare_call 2 1 2 1) 1 15 Blocks
      ∷ []) None
      ∷ [];
  points = 15;
}

-- it waits again though nobody woke it
abbrev pub asked_in_vain : Run
asked_in_vain = record {
  boots =
      boot (
      called (bare_call 1 1 1 0) 0 4 (replied (ok_at 1))
      ∷ waits
      ∷ called (bare_call 2 1 2 1) 1 7 Blocks
      ∷ []) None
      ∷ [];
  points = 7;
}

-- two events are made in the setup; client 2 waits for the first, and client 1 triggers it
abbrev pub setup_first_script : Script
setup_first_script = record {
  setup = made 1 [] ∷ made 1 [] ∷ [];
  clients = (1, made 3 (Back 1 ∷ Number 1 ∷ []) ∷ []) ∷ (2, made 2 (Number 1 ∷ []) ∷ []) ∷ [];
  schedule = 2 ∷ [];
  stops = [];
}

abbrev pub setup_first_history : List Entry
setup_first_history =
    entry (bare_call 1 1 1 0) (ok_at 1)
    ∷ entry (bare_call 1 2 1 0) (ok_at 2)
    ∷ entry (call_with 1 3 3 1 (word 1 ∷ [])) ok
    ∷ entry (bare_call 2 1 2 1) ok
    ∷ []

-- client 2 waits once both are made
abbrev pub setup_first : Run
setup_first = record {
  boots =
      boot (
      called (bare_call 1 1 1 0) 0 4 (replied (ok_at 1))
      ∷ called (bare_call 1 2 1 0) 0 9 (replied (ok_at 2))
      ∷ called (bare_call 2 1 2 1) 1 11 Blocks
      ∷ called (call_with 1 3 3 1 (word 1 ∷ [])) 1 14 (replied ok)
      ∷ called (bare_call 2 1 2 1) 1 18 (replied ok)
      ∷ []) None
      ∷ [];
  points = 19;
}

-- it isn't told that it waits
abbrev pub wait_left_out : Run
wait_left_out = record {
  boots =
      boot (
      called (bare_call 1 1 1 0) 0 4 (replied (ok_at 1))
      ∷ called (bare_call 1 2 1 0) 0 9 (replied (ok_at 2))
      ∷ called (call_with 1 3 3 1 (word 1 ∷ [])) 1 13 (replied ok)
      ∷ called (bare_call 2 1 2 1) 1 17 (replied ok)
      ∷ []) None
      ∷ [];
  points = 18;
}

-- it waits as soon as the first is made, in the middle of the setup
abbrev pub turn_in_setup : Run
turn_in_setup = record {
  boots =
      boot (
      called (bare_call 1 1 1 0) 0 4 (replied (ok_at 1))
      ∷ waits
      ∷ called (bare_call 1 2 1 0) 0 10 (replied (ok_at 2))
      ∷ called (call_with 1 3 3 1 (word 1 ∷ [])) 1 14 (replied ok)
      ∷ called (bare_call 2 1 2 1) 1 18 (replied ok)
      ∷ []) None
      ∷ [];
  points = 19;
}
