-- Which stage of the play without stops a play is at, and whose turn it is there.
use Rattle.std.specs.Prelude.{ℕ, ◌≡◌, ◌+◌, List, [], ◌∷◌, Some, drop}
use Rattle.sg_facts.specs.sg_base.declared.reply.Reply.{Reply}
use Rattle.sg_facts.specs.declared.entry.Entry.{Entry}
use Rattle.sg_plain.specs.OneService.{workload_of}
use Rattle.sg_plain.specs.Plain.{PlainPhase, Player, Stage, blocked, holding, left_schedule, next_turn, player_at, replied}
use Rattle.sg_plain.specs.Playing.Callers.{handed}
use Rattle.sg_plain.specs.sg_script.declared.script.Script.{Script}
use Rattle.sg_plain.specs.sg_clients.WorldView.{Seat, WorldView}
use Rattle.sg_plain.specs.sg_clients.declared.phase.Phase.{Phase as SeatPhase}
use Rattle.sg_plain.specs.sg_clients.declared.phase.Phase.TheVariants.{Idle, Asked, Held, Receipted, Blocked, Left}

-- what a client is at, by the phase of its seat and the reply there; and what it is at where it has no reply to come and doesn't wait
abbrev pub phase_by : SeatPhase → Reply → PlainPhase → PlainPhase
phase_by Idle reply going = going
phase_by Left reply going = going
phase_by Asked reply going = going
phase_by Held reply going = holding reply
phase_by Receipted reply going = replied
phase_by Blocked reply going = blocked

-- the player of a seat
abbrev pub player_by : Script → ℕ → Seat → Player
player_by script client s = record { done = handed s; phase = phase_by s.phase s.reply (player_at (workload_of script) client (handed s)).phase }

-- the players of seats, numbered from a number on
abbrev pub players_by : Script → ℕ → List Seat → List Player
players_by script n [] = []
players_by script n (s ∷ seats) = player_by script n s ∷ players_by script (n + 1) seats

-- the stage of a play whose world is so, where so many turns of the schedule were taken or passed over, and this client took the last
abbrev pub stage_of : Script → WorldView → ℕ → ℕ → Stage Entry
stage_of script w passed last = record { history = w.history; players = players_by script 1 w.seats; schedule = drop passed script.schedule; last = last }

-- a client takes the next turn there, and so many turns of the schedule are taken or passed over then
pub record IsNextTurn (script : Script) (stage : Stage Entry) (client later : ℕ) : Type 0 where
  pub turn : next_turn (workload_of script) stage ≡ Some client
  pub schedule : drop later script.schedule ≡ left_schedule (workload_of script) stage
