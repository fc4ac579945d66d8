-- Runs of the timer service. Its functions: 1 tmr_create, 2 tmr_tick, 3 tmr_wait, 4 tmr_place, 5 tmr_first, 6 tmr_skip, 7 tmr_free.
use Rattle.std.specs.Prelude.{ℕ, List, [], ◌∷◌, None, Some}
use Rattle.test_histories.specs.sg_facts.declared.entry.Entry.{Entry}
use Rattle.test_histories.specs.sg_facts.declared.tables.WalkLine.{WalkLine}
use Rattle.test_histories.specs.sg_facts.Laws.{whole}
use Rattle.test_histories.specs.sg_facts.Trace.{Run}
use Rattle.sg_recovery_laws.specs.sg_hist.declared.ended.End.{End}
use Rattle.sg_recovery_laws.specs.sg_hist.declared.ended.End.TheVariants.{Done}
use Rattle.test_histories.specs.sg_timer.TimerFacts.{timer_facts}
use Rattle.test_histories.specs.sg_timer.TimerTable.{timer_parts, timer_table}
use Rattle.sg_recovery_laws.specs.sg_hist.Recovered.{Stubs}
use Rattle.test_histories.specs.Written.{entry, ok, ok_with}
use Rattle.test_recovery.specs.Written.{boot, bare_call, call_with, called, replied, walked, word}

-- the walk of a timer whose fields are all set, by its tables
abbrev pub timer_walks : List WalkLine
timer_walks = record { made = 1; state = 1; mask = 31; walk = 1 ∷ 2 ∷ 4 ∷ [] } ∷ []

abbrev pub timer_stubs : Stubs
timer_stubs = record { interface = whole timer_facts; ask = timer_table; parts = timer_parts; walks = timer_walks }

-- a timer of two ticks is waited for when its clock has had three
abbrev pub time_kept_history : List Entry
time_kept_history =
    entry (call_with 1 1 1 0 (word 2 ∷ word 7 ∷ [])) (ok_with 1 2)
    ∷ entry (call_with 1 2 2 1 (word 3 ∷ [])) ok
    ∷ entry (bare_call 1 3 3 1) (ok_with 0 2)
    ∷ []

abbrev pub time_kept_ends : List (ℕ × End)
time_kept_ends = (1, Done) ∷ []

-- a timer comes back with its clock and with when it is due
abbrev pub time_kept : Run
time_kept = record {
  boots =
      boot (
      called (call_with 1 1 1 0 (word 2 ∷ word 7 ∷ [])) 0 5 (replied (ok_with 1 2))
      ∷ called (call_with 1 2 2 1 (word 3 ∷ [])) 1 9 (replied ok)
      ∷ []) (Some 11)
      ∷ boot (
      walked 1 1 1 (call_with 1 0 1 0 (word 2 ∷ word 7 ∷ [])) 0 16 (replied (ok_with 1 2))
      ∷ walked 1 2 1 (call_with 1 0 2 1 (word 3 ∷ [])) 1 19 (replied ok)
      ∷ walked 1 3 1 (call_with 1 0 4 1 (word 2 ∷ [])) 1 22 (replied ok)
      ∷ called (bare_call 1 3 3 1) 1 25 (replied (ok_with 0 2))
      ∷ []) None
      ∷ [];
  points = 26;
}

-- ---- runs that do not recover

-- a timer is waited for before it is set when it is due
abbrev pub waited_unset : Run
waited_unset = record {
  boots =
      boot (
      called (call_with 1 1 1 0 (word 2 ∷ word 7 ∷ [])) 0 5 (replied (ok_with 1 2))
      ∷ called (call_with 1 2 2 1 (word 3 ∷ [])) 1 9 (replied ok)
      ∷ []) (Some 11)
      ∷ boot (
      walked 1 1 1 (call_with 1 0 1 0 (word 2 ∷ word 7 ∷ [])) 0 16 (replied (ok_with 1 2))
      ∷ walked 1 2 1 (call_with 1 0 2 1 (word 3 ∷ [])) 1 19 (replied ok)
      ∷ called (bare_call 1 3 3 1) 1 22 (replied (ok_with 0 2))
      ∷ []) None
      ∷ [];
  points = 23;
}
