-- Plays over several services. The functions of locks: 1 lock_alloc, 2 lock_take; of events: 1 evt_split, 2 evt_wait, 3 evt_trigger.
use Rattle.std.specs.Prelude.{ℕ, ◌≡◌, List, [], ◌∷◌, None, Some, map}
use Rattle.sg_multi.specs.Merged.{MultiEntry}
use Rattle.sg_multi.specs.Played.{IsMultiPlayed, MultiCame}
use Rattle.sg_multi.specs.SeveralServices.{multi_workload, several_services}
use Rattle.sg_multi.specs.sg_sim.sg_plain.Plain.{first_stage, stage_from}
use Rattle.sg_multi.specs.sg_sim.sg_play.sg_hist.Recovered.{Stubs}
use Rattle.sg_multi.specs.sg_sim.sg_script.declared.multi.MultiCall.{MultiCall}
use Rattle.sg_multi.specs.sg_sim.sg_script.declared.multi.MultiScript.{MultiScript}
use Rattle.sg_plain.specs.sg_script.declared.script.Arg.TheVariants.{Back, Number}
use Rattle.sg_plain.specs.sg_script.declared.script.ScriptCall.{ScriptCall}
use Rattle.test_recovery.specs.sg_facts.declared.outcome.Outcome.TheVariants.{Blocks}
use Rattle.test_recovery.specs.sg_facts.Trace.{Run, run_of}
use Rattle.test_recovery.specs.test_histories.Written.{entry, ok, ok_at}
use Rattle.test_recovery.specs.Written.{bare_call, boot, call_with, called, replied, word}
use Rattle.test_plays.specs.LockPlays.{entry_of, lock_call, made, ok_desc}

-- a call of the first member
abbrev pub at_first : ScriptCall → MultiCall
at_first call = record { member = 1; call = call }

-- and one of the second
abbrev pub at_second : ScriptCall → MultiCall
at_second call = record { member = 2; call = call }

-- client 1 makes a lock and takes it, and client 2 takes it too
abbrev pub two_takes : MultiScript
two_takes = record {
  setup = [];
  clients = (1, at_first (made 1 []) ∷ at_first (made 2 (Number 1 ∷ [])) ∷ []) ∷ (2, at_first (made 2 (Number 1 ∷ [])) ∷ []) ∷ [];
  schedule = [];
  stops = [] ∷ [];
}

-- client 1's calls are done
abbrev pub one_taken : List MultiEntry
one_taken =
    record { member = 1; entry = entry_of (lock_call 1 1 1 0) (ok_desc 1) }
    ∷ record { member = 1; entry = entry_of (lock_call 1 2 2 1) (ok_desc 0) }
    ∷ []

-- ---- plays of which the runs of the members are known

-- a play came to these runs of its members
pub record CameTo (members : List Stubs) (script : MultiScript) (runs : List Run) : Type 0 where
  pub came : MultiCame
  pub play : IsMultiPlayed members script came
  pub runs_are : map (λ e. run_of e.trace) came.members ≡ runs

-- ---- the setup

-- the setup makes an event, a lock and an event; client 2 waits for the first event, and client 1 triggers it
abbrev pub setup_of_two : MultiScript
setup_of_two = record {
  setup = at_second (made 1 []) ∷ at_first (made 1 []) ∷ at_second (made 1 []) ∷ [];
  clients = (1, at_second (made 3 (Back 1 ∷ Number 1 ∷ [])) ∷ []) ∷ (2, at_second (made 2 (Number 1 ∷ [])) ∷ []) ∷ [];
  schedule = 2 ∷ [];
  stops = [] ∷ [] ∷ [];
}

-- what is done to the service of locks
abbrev pub one_lock : Run
one_lock = record { boots = boot (called (bare_call 1 1 1 0) 0 4 (replied (ok_at 1)) ∷ []) None ∷ []; points = 5 }

-- ---- turns until a stop

-- each of two clients makes a lock, client 2 first, and the service stops then
abbrev pub second_makes_first : MultiScript
second_makes_first = record {
  setup = [];
  clients = (1, at_first (made 1 []) ∷ []) ∷ (2, at_first (made 1 []) ∷ []) ∷ [];
  schedule = 2 ∷ [];
  stops = (10 ∷ []) ∷ [];
}

abbrev pub in_turn : List MultiEntry
in_turn =
    record { member = 1; entry = entry (bare_call 2 1 1 0) (ok_at 1) }
    ∷ record { member = 1; entry = entry (bare_call 1 1 1 0) (ok_at 2) }
    ∷ []

-- client 1 comes first
abbrev pub out_of_turn : List MultiEntry
out_of_turn =
    record { member = 1; entry = entry (bare_call 1 1 1 0) (ok_at 1) }
    ∷ record { member = 1; entry = entry (bare_call 2 1 1 0) (ok_at 2) }
    ∷ []

abbrev pub out_of_turn_run : Run
out_of_turn_run = record {
  boots = boot (called (bare_call 1 1 1 0) 0 4 (replied (ok_at 1)) ∷ called (bare_call 2 1 1 0) 0 9 (replied (ok_at 2)) ∷ []) (Some 10) ∷ [];
  points = 10;
}

-- the entries of the play without stops after so many turns
abbrev pub entries_after : List Stubs → MultiScript → ℕ → List MultiEntry
entries_after members script turns = (stage_from (several_services members script) (multi_workload script) (first_stage (multi_workload script)) turns).history

-- ---- a client's earlier calls

-- the setup makes a lock and an event; client 2 triggers the event, and client 1 takes the lock and then waits for the event
abbrev pub take_then_wait : MultiScript
take_then_wait = record {
  setup = at_first (made 1 []) ∷ at_second (made 1 []) ∷ [];
  clients =
      (1, at_first (made 2 (Number 1 ∷ [])) ∷ at_second (made 2 (Number 1 ∷ [])) ∷ [])
      ∷ (2, at_second (made 3 (Number 1 ∷ Number 1 ∷ [])) ∷ [])
      ∷ [];
  schedule = 2 ∷ 2 ∷ [];
  stops = [] ∷ [] ∷ [];
}

abbrev pub taken_then_waited : List MultiEntry
taken_then_waited =
    record { member = 1; entry = entry (bare_call 1 1 1 0) (ok_at 1) }
    ∷ record { member = 2; entry = entry (bare_call 1 1 1 0) (ok_at 1) }
    ∷ record { member = 2; entry = entry (call_with 2 1 3 1 (word 1 ∷ [])) ok }
    ∷ record { member = 1; entry = entry (bare_call 1 2 2 1) ok }
    ∷ record { member = 2; entry = entry (bare_call 1 2 2 1) ok }
    ∷ []

abbrev pub lock_taken : Run
lock_taken = record { boots = boot (called (bare_call 1 1 1 0) 0 4 (replied (ok_at 1)) ∷ called (bare_call 1 2 2 1) 1 8 (replied ok) ∷ []) None ∷ []; points = 9 }

-- client 1 waits once it has the lock
abbrev pub waited_in_turn : Run
waited_in_turn = record {
  boots =
      boot (
      called (bare_call 1 1 1 0) 0 4 (replied (ok_at 1))
      ∷ called (call_with 2 1 3 1 (word 1 ∷ [])) 1 8 (replied ok)
      ∷ called (bare_call 1 2 2 1) 1 12 (replied ok)
      ∷ []) None
      ∷ [];
  points = 13;
}

-- it waits before the trigger already, and so before it takes the lock
abbrev pub waited_early : Run
waited_early = record {
  boots =
      boot (
      called (bare_call 1 1 1 0) 0 4 (replied (ok_at 1))
      ∷ called (bare_call 1 2 2 1) 1 6 Blocks
      ∷ called (call_with 2 1 3 1 (word 1 ∷ [])) 1 9 (replied ok)
      ∷ called (bare_call 1 2 2 1) 1 13 (replied ok)
      ∷ []) None
      ∷ [];
  points = 14;
}
