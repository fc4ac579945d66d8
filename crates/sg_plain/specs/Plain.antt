-- The play without stops, turn by turn: of clients that make calls of any type, and of whatever answers them.
use Rattle.std.specs.Prelude.{ℕ, zero, suc, ◌≡◌, ◌+◌, ◌-◌, Bool, true, false, nat_lt, if◌then◌else◌, List, [], ◌∷◌, ◌++◌, None, Some, length, map, slice_get, slice_set, unwrap_or}
use Rattle.std.specs.List.{find}
use Rattle.std.specs.Option.{option_map_or}
use Rattle.std.specs.declared.option.Option.{Option}
use Rattle.sg_facts.specs.sg_base.declared.reply.Code.{Code}
use Rattle.sg_facts.specs.sg_base.declared.reply.Reply.{Reply}
use Rattle.sg_facts.specs.sg_base.declared.reply.Reply.TheVariants.{Refused}
use Rattle.sg_plain.specs.Calls.{ascending_from}

-- ---- what is played

-- what clients call and what answers them, where the entries of the history and the calls are of any type
pub record System (E C : Type 0) : Type 0 where
  -- the call that a client makes after a history, when so many of its calls are done
  pub next : List E → ℕ → ℕ → Option C
  -- the code of a call that is refused before it is asked
  pub guard : List E → C → Option Code
  -- what a call is answered; None where it has to wait
  pub ask : List E → C → Option Reply
  -- whether others see what a call did before its client is handed the reply
  pub visible : C → Bool
  -- the entry of an answered call
  pub entry : C → Reply → E
  -- whether an answered call wakes who waits in another one
  pub wakes : List E → C → Reply → Option C → Bool

-- how many calls the clients have, and in which order they take their turns
pub record Workload : Type 0 where
  -- how many calls a client has, those of the setup among client 1's
  pub calls : ℕ → ℕ
  pub most_client : ℕ
  -- how many of client 1's calls are the setup
  pub setup : ℕ
  pub schedule : List ℕ

-- ---- clients

-- what a client is at: it has a next call; its visible call was answered; it holds a reply that isn't committed; it is blocked; or
-- it has no call left
pub data PlainPhase : Type 0 where
  ready : PlainPhase
  replied : PlainPhase
  holding : Reply → PlainPhase
  blocked : PlainPhase
  through : PlainPhase

-- how many of its calls are done, and what it is at
pub record Player : Type 0 where
  pub done : ℕ
  pub phase : PlainPhase

-- the history so far, the clients from 1 on, the turns that the schedule still gives, and the client of the last turn, 0 before
-- the first
pub record Stage (E : Type 0) : Type 0 where
  pub history : List E
  pub players : List Player
  pub schedule : List ℕ
  pub last : ℕ

-- a client with so many calls done
abbrev pub player_at : Workload → ℕ → ℕ → Player
player_at work client done = record { done = done; phase = if nat_lt done (work.calls client) then ready else through }

-- the stage at which a play begins: an empty history, no call of a client is done, and the whole schedule is still to come
abbrev pub first_stage : {E : Type 0} → Workload → Stage E
first_stage work = record {
  history = [];
  players = map (λ client. player_at work client 0) (ascending_from 1 work.most_client);
  schedule = work.schedule;
  last = 0;
}

-- the client of a number, from 1
abbrev pub player_of : {E : Type 0} → Stage E → ℕ → Player
player_of s client = unwrap_or (slice_get s.players (client - 1)) (record { done = 0; phase = through })

-- a stage with the client of a number, from 1, replaced
abbrev pub with_player : {E : Type 0} → Stage E → ℕ → Player → Stage E
with_player s client p = record s { players = slice_set s.players (client - 1) p }

-- ---- commits

-- what a client is at after an answered call that wakes it, or not: only one that was blocked is ready again
abbrev pub woken_phase : Bool → PlainPhase → PlainPhase
woken_phase woke blocked = if woke then ready else blocked
woken_phase woke phase = phase

-- the clients, numbered from one on, where this tells whether a client with so many calls done is woken
abbrev pub after_wakes : (ℕ → ℕ → Bool) → ℕ → List Player → List Player
after_wakes wakes client [] = []
after_wakes wakes client (p ∷ players) = record p { phase = woken_phase (wakes client p.done) p.phase } ∷ after_wakes wakes (client + 1) players

-- an answered call is appended to the history, and who waited for it is ready again
abbrev pub appended : {E C : Type 0} → System E C → Stage E → C → Reply → Stage E
appended sys s call reply = record s {
  history = s.history ++ sys.entry call reply ∷ [];
  players = after_wakes (λ client done. sys.wakes s.history call reply (sys.next s.history client done)) 1 s.players;
}

-- a client goes on to its next call
abbrev pub gone_on : {E : Type 0} → Workload → ℕ → Stage E → Stage E
gone_on work client s = with_player s client (player_at work client ((player_of s client).done + 1))

-- a stage with this as what a client is at
abbrev pub at_phase : {E : Type 0} → ℕ → PlainPhase → Stage E → Stage E
at_phase client phase s = with_player s client (record (player_of s client) { phase = phase })

-- ---- turns

-- what a client's turn does, by what it is at
abbrev pub turned : {E C : Type 0} → System E C → Workload → ℕ → Stage E → PlainPhase → Stage E
-- it makes its next call: a refusal by the guard is appended, and the client goes on; who can't be answered waits; a visible reply is
-- appended at once, and any other is held
turned sys work client s ready =
    option_map_or (λ call.
    option_map_or (λ code. gone_on work client (appended sys s call (Refused code)))
    (sys.guard s.history call)
    (option_map_or (λ reply. if sys.visible call then at_phase client replied (appended sys s call reply) else at_phase client (holding reply) s)
    (sys.ask s.history call)
    (at_phase client blocked s)))
    (sys.next s.history client (player_of s client).done) s
turned sys work client s replied = gone_on work client s
-- the held reply is appended with its call, and the client goes on
turned sys work client s (holding reply) =
    option_map_or (λ call. gone_on work client (appended sys s call reply)) (sys.next s.history client (player_of s client).done) s
turned sys work client s blocked = s
turned sys work client s through = s

-- ---- whose turn it is

-- whether the client of a number, from 1, can take a turn: it is neither blocked nor without a call
abbrev pub may_turn : {E : Type 0} → Stage E → ℕ → Bool
may_turn s client = elim (player_of s client).phase [ ready ↦ true | replied ↦ true | holding reply ↦ true | blocked ↦ false | through ↦ false ]

-- the turns after those that are passed over, and the one that is taken
abbrev pub left_after_first : {E : Type 0} → Stage E → List ℕ → List ℕ
left_after_first s [] = []
left_after_first s (client ∷ schedule) = if may_turn s client then schedule else left_after_first s schedule

-- client 1 until its setup calls are done, then who the schedule says and can, then who can of those after the last turn, in a circle
abbrev pub next_turn : {E : Type 0} → Workload → Stage E → Option ℕ
next_turn work s =
    if nat_lt (player_of s 1).done work.setup then Some 1
    else option_map_or Some (find (may_turn s) s.schedule)
    (find (may_turn s) (ascending_from (s.last + 1) (length s.players - s.last) ++ ascending_from 1 s.last))

-- the schedule that is left after the next turn: all of it until the setup calls of client 1 are done
abbrev pub left_schedule : {E : Type 0} → Workload → Stage E → List ℕ
left_schedule work s = if nat_lt (player_of s 1).done work.setup then s.schedule else left_after_first s s.schedule

-- ---- the play

-- the stage after one turn more; as before where nobody takes one
abbrev pub next_stage : {E C : Type 0} → System E C → Workload → Stage E → Stage E
next_stage sys work s =
    option_map_or (λ client. turned sys work client (record s { schedule = left_schedule work s; last = client }) (player_of s client).phase)
    (next_turn work s) s

-- the stage that so many turns lead to
abbrev pub stage_from : {E C : Type 0} → System E C → Workload → Stage E → ℕ → Stage E
stage_from sys work s zero = s
stage_from sys work s (suc turns) = stage_from sys work (next_stage sys work s) turns

-- the play: after some number of turns nobody can take one, and this is the history
pub record IsPlay {E C : Type 0} (sys : System E C) (work : Workload) (history : List E) : Type 0 where
  pub turns : ℕ
  pub over : next_turn work (stage_from sys work (first_stage work) turns) ≡ None
  pub is : history ≡ (stage_from sys work (first_stage work) turns).history
