-- What is left of a play without stops.
use Rattle.std.specs.Prelude.{ℕ, ◌≡◌, ◌+◌, ◌-◌, ◌*◌, ◌<◌, ◌≤◌, true, List, [], ◌∷◌, Some, length, slice_get, nat_le}
use Rattle.std.specs.List.{list_all}
use Rattle.sg_facts.specs.declared.entry.Entry.{Entry}
use Rattle.sg_facts.specs.Facts.{Facts, fun_at}
use Rattle.sg_plain.specs.Calls.{script_calls}
use Rattle.sg_plain.specs.Plain.{PlainPhase, Player, Stage, blocked, holding, ready, replied, through}
use Rattle.sg_script.specs.declared.script.Script.{Script}
use Rattle.sg_script.specs.declared.script.ScriptCall.{ScriptCall}

-- a client that waits does so in a call of a function that may wait
pub record WaitsIn (facts : Facts) (calls : List ScriptCall) (done : ℕ) : Type 0 where
  pub call : ScriptCall
  pub there : slice_get calls done ≡ Some call
  pub may_wait : (fun_at facts.funs call.fun).block ≡ true

-- a client with a call under way has a call, and one that is through has no more
abbrev pub FitsCalls : Facts → List ScriptCall → ℕ → PlainPhase → Type 0
FitsCalls facts calls done ready = done < length calls
FitsCalls facts calls done replied = done < length calls
FitsCalls facts calls done (holding reply) = done < length calls
FitsCalls facts calls done blocked = WaitsIn facts calls done
FitsCalls facts calls done through = length calls ≤ done

-- what each client has done and is at fits its calls of the script, where the clients are numbered from a number on
abbrev pub FitScript : Facts → Script → ℕ → List Player → Type 0
FitScript facts script n [] = Unit {0}
FitScript facts script n (p ∷ players) = FitsCalls facts (script_calls script n) p.done p.phase × FitScript facts script (n + 1) players

-- how many entries are still to come of a client's calls, where so many calls are left
abbrev pub entries_to_come : ℕ → PlainPhase → ℕ
entries_to_come left ready = left
entries_to_come left replied = left - 1
entries_to_come left (holding reply) = left
entries_to_come left blocked = left
entries_to_come left through = left

-- how many entries are still to come of the calls of these clients, which are numbered from a number on
abbrev pub all_to_come : Script → ℕ → List Player → ℕ
all_to_come script n [] = 0
all_to_come script n (p ∷ players) = entries_to_come (length (script_calls script n) - p.done) p.phase + all_to_come script (n + 1) players

-- how many turns a client can take, at most, before it has to make an entry
abbrev pub turns_before : PlainPhase → ℕ
turns_before ready = 2
turns_before replied = 3
turns_before (holding reply) = 1
turns_before blocked = 0
turns_before through = 0

-- how many turns these clients can take together, at most, before one of them has to make an entry
abbrev pub all_before : List Player → ℕ
all_before [] = 0
all_before (p ∷ players) = turns_before p.phase + all_before players

-- how many turns are left, at most
abbrev pub turns_left : Script → Stage Entry → ℕ
turns_left script s = all_to_come script 1 s.players * (3 * length s.players + 1) + all_before s.players

-- what a stage keeps
pub record IsPlayStage (facts : Facts) (script : Script) (s : Stage Entry) : Type 0 where
  pub fit : FitScript facts script 1 s.players
  pub some : 1 ≤ length s.players
  pub turns : list_all (λ client. nat_le 1 client) s.schedule ≡ true
