-- The steps of a turn of the play without stops, one by one, and the play of one service.
use Rattle.std.specs.Prelude.{ℕ, ◌+◌, ◌-◌, Bool, true, false, if◌then◌else◌, List, ◌++◌, Some, length, option_map}
use Rattle.std.specs.List.{find}
use Rattle.std.specs.Option.{option_map_or}
use Rattle.std.specs.declared.option.Option.{Option}
use Rattle.sg_facts.specs.sg_base.declared.call.Call.{Call}
use Rattle.sg_facts.specs.sg_base.declared.reply.Code.{Code}
use Rattle.sg_facts.specs.sg_base.declared.reply.Reply.{Reply}
use Rattle.sg_facts.specs.sg_base.declared.reply.Reply.TheVariants.{Refused}
use Rattle.sg_facts.specs.Facts.{Facts}
use Rattle.sg_facts.specs.Interface.{Declared}
use Rattle.sg_facts.specs.Legal.{Table}
use Rattle.sg_facts.specs.declared.entry.Entry.{Entry}
use Rattle.sg_facts.specs.declared.row.Row.{Row}
use Rattle.sg_script.specs.declared.script.Script.{Script}
use Rattle.sg_script.specs.declared.script.ScriptCall.{ScriptCall}
use Rattle.sg_clients.specs.sg_hist.Wakes.{wakes}
use Rattle.sg_plain.specs.Calls.{ascending_from, call_after, resolved_by}
use Rattle.sg_plain.specs.OneService.{one_service, workload_of}
use Rattle.sg_plain.specs.Plain.{IsPlay, PlainPhase, Stage, System, Workload, appended, at_phase, blocked, first_stage, gone_on, holding, left_schedule, may_turn, player_of, ready, replied, stage_from, through, turned}

-- ---- of any clients, and whatever answers them

-- a call that passes the guard
abbrev pub served : {E C : Type 0} → System E C → ℕ → Stage E → C → Option Reply → Stage E
served sys client s call asked =
    option_map_or (λ reply. if sys.visible call then at_phase client replied (appended sys s call reply) else at_phase client (holding reply) s)
    asked (at_phase client blocked s)

-- a client's call after the guard
abbrev pub after_guard : {E C : Type 0} → System E C → Workload → ℕ → Stage E → C → Option Code → Stage E
after_guard sys work client s call refused =
    option_map_or (λ code. gone_on work client (appended sys s call (Refused code))) refused
    (served sys client s call (sys.ask s.history call))

-- the stage after a client makes its next call
abbrev pub after_call : {E C : Type 0} → System E C → Workload → ℕ → Stage E → Option C → Stage E
after_call sys work client s call = option_map_or (λ c. after_guard sys work client s c (sys.guard s.history c)) call s

-- the stage after a client's held reply is handed over
abbrev pub handed_over : {E C : Type 0} → System E C → Workload → ℕ → Stage E → Reply → Option C → Stage E
handed_over sys work client s reply call = option_map_or (λ c. gone_on work client (appended sys s c reply)) call s

-- whether a client can go on by itself
abbrev pub is_under_way : PlainPhase → Bool
is_under_way phase = elim phase [ ready ↦ true | replied ↦ true | holding reply ↦ true | blocked ↦ false | through ↦ false ]

-- the first of these clients that can take a turn
abbrev pub first_of : {E : Type 0} → Stage E → List ℕ → Option ℕ
first_of s clients = find (may_turn s) clients

-- in ascending numbers after the last turn, and then from 1 on
abbrev pub in_a_circle : {E : Type 0} → Stage E → List ℕ
in_a_circle s = ascending_from (s.last + 1) (length s.players - s.last) ++ ascending_from 1 s.last

-- the first number, or the second where there is no first
abbrev pub some_or : Option ℕ → Option ℕ → Option ℕ
some_or first other = option_map_or Some first other

-- the stage after the turn of a client
abbrev pub after_turn : {E C : Type 0} → System E C → Workload → Stage E → Option ℕ → Stage E
after_turn sys work s client =
    option_map_or (λ c. turned sys work c (record s { schedule = left_schedule work s; last = c }) (player_of s c).phase) client s

-- ---- of one service

-- the descriptor of the call that a client is at, 0 where it has none
abbrev pub waits_on : Option Call → ℕ
waits_on call = option_map_or (λ c. c.desc) call 0

-- whether an answered call wakes a client of which so many calls are done
abbrev pub is_woken_by : Facts → Script → List Entry → List Row → Call → Reply → ℕ → ℕ → Bool
is_woken_by facts script history rows call reply client done = wakes facts rows call reply (waits_on (call_after facts script history client done))

-- a call of a client with its number, where the client has one more
abbrev pub resolved : Facts → List Entry → ℕ → ℕ → Option ScriptCall → Option Call
resolved facts history client seq call = option_map (resolved_by facts history client seq) call

-- the stage after so many turns of a play
abbrev pub stage_after : Declared → Table → Script → ℕ → Stage Entry
stage_after i ask script turns = stage_from (one_service i ask script) (workload_of script) (first_stage (workload_of script)) turns

-- the play without stops of a script on one service
abbrev pub IsPlainPlay : Declared → Table → Script → List Entry → Type 0
IsPlainPlay i ask script history = IsPlay (one_service i ask script) (workload_of script) history
