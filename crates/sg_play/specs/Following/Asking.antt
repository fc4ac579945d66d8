-- What a turn of the play without stops asks, part by part, and what so many turns of a play of one service ask.
use Rattle.std.specs.Prelude.{ℕ, ◌+◌, is_some, not, List, [], ◌∷◌}
use Rattle.std.specs.Option.{option_map_or}
use Rattle.std.specs.declared.option.Option.{Option}
use Rattle.sg_facts.specs.sg_base.declared.reply.Code.{Code}
use Rattle.sg_facts.specs.Interface.{Declared}
use Rattle.sg_facts.specs.Legal.{Table}
use Rattle.sg_plain.specs.OneService.{one_service, workload_of}
use Rattle.sg_plain.specs.Plain.{Stage, System, first_stage, player_of}
use Rattle.sg_plain.specs.sg_script.declared.script.Script.{Script}
use Rattle.sg_play.specs.Asked.{Asked, asked_from, asked_in_turn}

-- what a call asks after the guard, and what a client asks by its next call
abbrev pub asked_after_guard : {E C : Type 0} → System E C → ℕ → Stage E → C → Option Code → List Asked
asked_after_guard sys client s call refused =
    option_map_or (λ code. []) refused (record { client = client; seq = (player_of s client).done + 1; waited = not (is_some (sys.ask s.history call)) } ∷ [])

abbrev pub asked_by_call : {E C : Type 0} → System E C → ℕ → Stage E → Option C → List Asked
asked_by_call sys client s call = option_map_or (λ c. asked_after_guard sys client s c (sys.guard s.history c)) call []

-- what the turn of a client asks
abbrev pub asked_next : {E C : Type 0} → System E C → Stage E → Option ℕ → List Asked
asked_next sys s client = option_map_or (λ c. asked_in_turn sys c s (player_of s c).phase) client []

-- what so many turns of a play ask
abbrev pub asked_by : Declared → Table → Script → ℕ → List Asked
asked_by i ask script turns = asked_from (one_service i ask script) (workload_of script) (first_stage (workload_of script)) turns
