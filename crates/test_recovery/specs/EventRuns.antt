-- Runs of the event service. Its functions: 1 evt_split, 2 evt_wait, 3 evt_trigger, 4 evt_free.
use Rattle.std.specs.Prelude.{ℕ, List, [], ◌∷◌, None, Some}
use Rattle.test_histories.specs.sg_facts.declared.entry.Entry.{Entry}
use Rattle.test_histories.specs.sg_facts.declared.outcome.Outcome.TheVariants.{Blocks}
use Rattle.test_histories.specs.sg_facts.declared.tables.WalkLine.{WalkLine}
use Rattle.test_histories.specs.sg_facts.Laws.{whole}
use Rattle.test_histories.specs.sg_facts.Trace.{Run}
use Rattle.sg_recovery_laws.specs.sg_hist.declared.ended.End.{End}
use Rattle.sg_recovery_laws.specs.sg_hist.declared.ended.End.TheVariants.{Blocked, Done}
use Rattle.test_histories.specs.sg_event.EventFacts.{event_facts}
use Rattle.test_histories.specs.sg_event.EventTable.{event_parts, event_table}
use Rattle.sg_recovery_laws.specs.sg_hist.Recovered.{Stubs}
use Rattle.test_histories.specs.Written.{entry, ok, ok_at}
use Rattle.test_recovery.specs.Written.{boot, bare_call, call_with, called, replied, walked, word}

-- the walks of its tables
abbrev pub event_walks : List WalkLine
event_walks =
    record { made = 1; state = 1; mask = 0; walk = 1 ∷ [] }
    ∷ record { made = 1; state = 1; mask = 1; walk = 1 ∷ 3 ∷ [] }
    ∷ []

abbrev pub event_stubs : Stubs
event_stubs = record { interface = whole event_facts; ask = event_table; parts = event_parts; walks = event_walks }

-- a trigger is committed before the stop, and the other client gets its count once
abbrev pub trigger_not_twice_history : List Entry
trigger_not_twice_history =
    entry (bare_call 1 1 1 0) (ok_at 1)
    ∷ entry (call_with 1 2 3 1 ((word 1) ∷ [])) ok
    ∷ entry (bare_call 2 1 2 1) ok
    ∷ []

abbrev pub trigger_not_twice_ends : List (ℕ × End)
trigger_not_twice_ends = (1, Done) ∷ (2, Blocked (bare_call 2 2 2 1)) ∷ []

abbrev pub trigger_not_twice : Run
trigger_not_twice = record {
  boots =
      boot (
      called (bare_call 1 1 1 0) 0 4 (replied (ok_at 1))
      ∷ called (call_with 1 2 3 1 ((word 1) ∷ [])) 1 8 (replied ok)
      ∷ []) (Some 9)
      ∷ boot (
      walked 1 1 2 (bare_call 1 0 1 0) 0 13 (replied (ok_at 1))
      ∷ walked 1 2 2 (call_with 1 0 3 1 ((word 1) ∷ [])) 1 16 (replied ok)
      ∷ called (bare_call 2 1 2 1) 1 19 (replied ok)
      ∷ called (bare_call 2 2 2 1) 1 21 Blocks
      ∷ []) None
      ∷ [];
  points = 21;
}

-- an event comes back with the count that is left, and not with the one that was triggered
abbrev pub present_value_history : List Entry
present_value_history =
    entry (bare_call 1 1 1 0) (ok_at 1)
    ∷ entry (call_with 1 2 3 1 ((word 5) ∷ [])) ok
    ∷ entry (bare_call 1 3 2 1) ok
    ∷ entry (bare_call 1 4 2 1) ok
    ∷ entry (bare_call 1 5 2 1) ok
    ∷ []

abbrev pub present_value_ends : List (ℕ × End)
present_value_ends = (1, Done) ∷ []

abbrev pub present_value : Run
present_value = record {
  boots =
      boot (
      called (bare_call 1 1 1 0) 0 4 (replied (ok_at 1))
      ∷ called (call_with 1 2 3 1 ((word 5) ∷ [])) 1 8 (replied ok)
      ∷ called (bare_call 1 3 2 1) 1 12 (replied ok)
      ∷ called (bare_call 1 4 2 1) 1 16 (replied ok)
      ∷ []) (Some 18)
      ∷ boot (
      walked 1 1 1 (bare_call 1 0 1 0) 0 22 (replied (ok_at 1))
      ∷ walked 1 2 1 (call_with 1 0 3 1 ((word 3) ∷ [])) 1 25 (replied ok)
      ∷ called (bare_call 1 5 2 1) 1 28 (replied ok)
      ∷ []) None
      ∷ [];
  points = 29;
}

-- a client is blocked when the service stops, and its call is done again
abbrev pub blocked_redone_history : List Entry
blocked_redone_history =
    entry (bare_call 1 1 1 0) (ok_at 1)
    ∷ entry (call_with 1 2 3 1 ((word 1) ∷ [])) ok
    ∷ entry (bare_call 2 1 2 1) ok
    ∷ []

abbrev pub blocked_redone_ends : List (ℕ × End)
blocked_redone_ends = (1, Done) ∷ (2, Done) ∷ []

abbrev pub blocked_redone : Run
blocked_redone = record {
  boots =
      boot (
      called (bare_call 1 1 1 0) 0 4 (replied (ok_at 1))
      ∷ called (bare_call 2 1 2 1) 1 6 Blocks
      ∷ []) (Some 7)
      ∷ boot (
      walked 1 1 2 (bare_call 1 0 1 0) 0 11 (replied (ok_at 1))
      ∷ called (call_with 1 2 3 1 ((word 1) ∷ [])) 1 14 (replied ok)
      ∷ called (bare_call 2 1 2 1) 1 18 (replied ok)
      ∷ []) None
      ∷ [];
  points = 19;
}

-- ---- runs that do not recover

-- an event comes back with the count that was triggered
abbrev pub earlier_value : Run
earlier_value = record {
  boots =
      boot (
      called (bare_call 1 1 1 0) 0 4 (replied (ok_at 1))
      ∷ called (call_with 1 2 3 1 ((word 5) ∷ [])) 1 8 (replied ok)
      ∷ called (bare_call 1 3 2 1) 1 12 (replied ok)
      ∷ called (bare_call 1 4 2 1) 1 16 (replied ok)
      ∷ []) (Some 18)
      ∷ boot (
      walked 1 1 1 (bare_call 1 0 1 0) 0 22 (replied (ok_at 1))
      ∷ walked 1 2 1 (call_with 1 0 3 1 ((word 5) ∷ [])) 1 25 (replied ok)
      ∷ called (bare_call 1 5 2 1) 1 28 (replied ok)
      ∷ []) None
      ∷ [];
  points = 29;
}
