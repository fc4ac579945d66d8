-- Runs of the sched service. Its functions: 1 sched_create_thd, 2 sched_yield, 3 sched_sleep, 4 sched_wakeup, 5 sched_wait, 6 sched_next, 7 sched_place, 8 sched_exit.
use Rattle.std.specs.Prelude.{ℕ, List, [], ◌∷◌, None, Some}
use Rattle.test_histories.specs.sg_facts.declared.entry.Entry.{Entry}
use Rattle.test_histories.specs.sg_facts.declared.outcome.Outcome.TheVariants.{Blocks}
use Rattle.test_histories.specs.sg_facts.declared.tables.WalkLine.{WalkLine}
use Rattle.test_histories.specs.sg_facts.Laws.{whole}
use Rattle.test_histories.specs.sg_facts.Trace.{Run}
use Rattle.sg_recovery_laws.specs.sg_hist.declared.ended.End.{End}
use Rattle.sg_recovery_laws.specs.sg_hist.declared.ended.End.TheVariants.{Done}
use Rattle.test_histories.specs.sg_sched.SchedFacts.{sched_facts}
use Rattle.test_histories.specs.sg_sched.SchedTable.{sched_parts, sched_table}
use Rattle.sg_recovery_laws.specs.sg_hist.Recovered.{Stubs}
use Rattle.test_histories.specs.Written.{entry, ok, ok_at, ok_with}
use Rattle.test_recovery.specs.Written.{boot, bare_call, call_with, called, replied, walked, word}

-- the walks of its tables
abbrev pub sched_walks : List WalkLine
sched_walks =
    record { made = 1; state = 1; mask = 0; walk = 1 ∷ 7 ∷ [] }
    ∷ record { made = 1; state = 1; mask = 1; walk = 1 ∷ 7 ∷ [] }
    ∷ record { made = 1; state = 1; mask = 2; walk = 1 ∷ 7 ∷ [] }
    ∷ record { made = 1; state = 1; mask = 3; walk = 1 ∷ 7 ∷ [] }
    ∷ record { made = 1; state = 3; mask = 0; walk = 1 ∷ 7 ∷ 3 ∷ [] }
    ∷ record { made = 1; state = 3; mask = 1; walk = 1 ∷ 7 ∷ 3 ∷ [] }
    ∷ record { made = 1; state = 3; mask = 2; walk = 1 ∷ 7 ∷ 3 ∷ [] }
    ∷ record { made = 1; state = 3; mask = 3; walk = 1 ∷ 7 ∷ 3 ∷ [] }
    ∷ []

abbrev pub sched_stubs : Stubs
sched_stubs = record { interface = whole sched_facts; ask = sched_table; parts = sched_parts; walks = sched_walks }

-- threads come back under other ids of the service, with their ranks
abbrev pub ranks_kept_history : List Entry
ranks_kept_history =
    entry (call_with 1 1 1 0 ((word 5) ∷ [])) (ok_with 1 1)
    ∷ entry (call_with 1 2 1 0 ((word 5) ∷ [])) (ok_with 2 2)
    ∷ entry (call_with 1 3 1 0 ((word 5) ∷ [])) (ok_with 3 3)
    ∷ entry (bare_call 1 4 8 1) ok
    ∷ entry (bare_call 1 5 2 2) (ok_with 0 4)
    ∷ entry (bare_call 1 6 6 0) (ok_at 3)
    ∷ []

abbrev pub ranks_kept_ends : List (ℕ × End)
ranks_kept_ends = (1, Done) ∷ []

abbrev pub ranks_kept : Run
ranks_kept = record {
  boots =
      boot (
      called (call_with 1 1 1 0 ((word 5) ∷ [])) 0 4 (replied (ok_with 1 1))
      ∷ called (call_with 1 2 1 0 ((word 5) ∷ [])) 0 9 (replied (ok_with 2 2))
      ∷ called (call_with 1 3 1 0 ((word 5) ∷ [])) 0 14 (replied (ok_with 3 3))
      ∷ called (bare_call 1 4 8 1) 1 18 (replied ok)
      ∷ called (bare_call 1 5 2 2) 2 22 (replied (ok_with 0 4))
      ∷ []) (Some 24)
      ∷ boot (
      walked 2 1 1 (call_with 1 0 1 0 ((word 5) ∷ [])) 0 28 (replied (ok_with 1 1))
      ∷ walked 2 2 1 (call_with 1 0 7 2 ((word 4) ∷ [])) 1 31 (replied ok)
      ∷ walked 3 1 1 (call_with 1 0 1 0 ((word 5) ∷ [])) 0 35 (replied (ok_with 2 5))
      ∷ walked 3 2 1 (call_with 1 0 7 3 ((word 3) ∷ [])) 2 38 (replied ok)
      ∷ called (bare_call 1 6 6 0) 0 40 (replied (ok_at 2))
      ∷ []) None
      ∷ [];
  points = 41;
}

-- two clients rebuild one thread, each a call of its walk
abbrev pub one_walk_two_clients_history : List Entry
one_walk_two_clients_history =
    entry (call_with 1 1 1 0 ((word 3) ∷ [])) (ok_with 1 1)
    ∷ entry (bare_call 1 2 3 1) ok
    ∷ entry (bare_call 2 1 4 1) ok
    ∷ entry (bare_call 1 3 5 1) ok
    ∷ []

abbrev pub one_walk_two_clients_ends : List (ℕ × End)
one_walk_two_clients_ends = (1, Done) ∷ (2, Done) ∷ []

abbrev pub one_walk_two_clients : Run
one_walk_two_clients = record {
  boots =
      boot (
      called (call_with 1 1 1 0 ((word 3) ∷ [])) 0 4 (replied (ok_with 1 1))
      ∷ called (bare_call 1 2 3 1) 1 8 (replied ok)
      ∷ called (bare_call 1 3 5 1) 1 10 Blocks
      ∷ []) (Some 11)
      ∷ boot (
      walked 1 1 1 (call_with 1 0 1 0 ((word 3) ∷ [])) 0 15 (replied (ok_with 1 1))
      ∷ walked 1 2 2 (call_with 1 0 7 1 ((word 1) ∷ [])) 1 18 (replied ok)
      ∷ walked 1 3 1 (bare_call 1 0 3 1) 1 21 (replied ok)
      ∷ called (bare_call 2 1 4 1) 1 24 (replied ok)
      ∷ called (bare_call 1 3 5 1) 1 27 (replied ok)
      ∷ []) None
      ∷ [];
  points = 28;
}

-- ---- runs that do not recover

-- the last call is answered by the id that the thread has in the service
abbrev pub shown_id_history : List Entry
shown_id_history =
    entry (call_with 1 1 1 0 ((word 5) ∷ [])) (ok_with 1 1)
    ∷ entry (call_with 1 2 1 0 ((word 5) ∷ [])) (ok_with 2 2)
    ∷ entry (call_with 1 3 1 0 ((word 5) ∷ [])) (ok_with 3 3)
    ∷ entry (bare_call 1 4 8 1) ok
    ∷ entry (bare_call 1 5 2 2) (ok_with 0 4)
    ∷ entry (bare_call 1 6 6 0) (ok_at 2)
    ∷ []

abbrev pub shown_id_ends : List (ℕ × End)
shown_id_ends = (1, Done) ∷ []

-- a client is told the id of the service
abbrev pub service_id_shown : Run
service_id_shown = record {
  boots =
      boot (
      called (call_with 1 1 1 0 ((word 5) ∷ [])) 0 4 (replied (ok_with 1 1))
      ∷ called (call_with 1 2 1 0 ((word 5) ∷ [])) 0 9 (replied (ok_with 2 2))
      ∷ called (call_with 1 3 1 0 ((word 5) ∷ [])) 0 14 (replied (ok_with 3 3))
      ∷ called (bare_call 1 4 8 1) 1 18 (replied ok)
      ∷ called (bare_call 1 5 2 2) 2 22 (replied (ok_with 0 4))
      ∷ []) (Some 24)
      ∷ boot (
      walked 2 1 1 (call_with 1 0 1 0 ((word 5) ∷ [])) 0 28 (replied (ok_with 1 1))
      ∷ walked 2 2 1 (call_with 1 0 7 2 ((word 4) ∷ [])) 1 31 (replied ok)
      ∷ walked 3 1 1 (call_with 1 0 1 0 ((word 5) ∷ [])) 0 35 (replied (ok_with 2 5))
      ∷ walked 3 2 1 (call_with 1 0 7 3 ((word 3) ∷ [])) 2 38 (replied ok)
      ∷ called (bare_call 1 6 6 0) 0 40 (replied (ok_at 2))
      ∷ []) None
      ∷ [];
  points = 41;
}
