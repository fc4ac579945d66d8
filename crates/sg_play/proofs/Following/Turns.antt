-- Whose turn it may be is the same in a play and in the stage of the play without stops that it is at.
use Rattle.std.proofs.Common.{◌≡◌, ℕ, ◌<◌, ◌≤◌, Bool, true, false, cond, List, [], ◌∷◌, length, Some, refl, ◌∙◌, ap}
use Rattle.std.specs.Prelude.{nat_lt, unwrap_or}
use Rattle.std.specs.declared.option.Option.{Option}
use Rattle.sg_facts.specs.sg_base.declared.call.Call.{Call}
use Rattle.sg_facts.specs.sg_base.declared.reply.Reply.{Reply}
use Rattle.sg_facts.specs.Interface.{Declared}
use Rattle.sg_plain.specs.Calls.{call_after, script_calls}
use Rattle.sg_plain.specs.Plain.{Player, may_turn, player_of, ready, through}
use Rattle.sg_plain.specs.Inside.Turns.{is_under_way}
use Rattle.sg_plain.specs.Playing.Callers.{IsCaller, is_setting_up}
use Rattle.sg_plain.specs.Playing.Plays.{IsPlaying}
use Rattle.sg_plain.specs.Playing.Turns.{may_go, may_take_turn}
use Rattle.sg_plain.specs.sg_script.declared.script.Script.{Script}
use Rattle.sg_plain.specs.sg_clients.WorldView.{Seat, WorldView, seat_of}
use Rattle.sg_plain.specs.sg_clients.declared.phase.Phase.{Phase as SeatPhase}
use Rattle.sg_plain.specs.sg_clients.declared.phase.Phase.TheVariants.{Idle, Asked, Held, Receipted, Blocked, Left}
use Rattle.sg_play.specs.Following.Stages.{player_by, stage_of}
use Rattle.sg_play.proofs.Following.Players.{get_player, has_more, length_players, no_player}

under_way_if : (b : Bool) → is_under_way (cond b ready through) ≡ b
under_way_if true = refl
under_way_if false = refl

module _ (i : Declared) (script : Script) (w : WorldView) (given : List (List ℕ)) (is : IsPlaying i script w.history w.seats given) (passed last : ℕ) where
  -- a client may take a turn there where it may here
  pub turns_alike : (client : ℕ) → 1 ≤ client → client ≤ length w.seats → may_turn (stage_of script w passed last) client ≡ may_take_turn script client (seat_of w client)
  turns_alike client first within =
      ap (λ (o : Option Player). is_under_way (unwrap_or o (record { done = 0; phase = through })).phase) (get_player script w.seats client first within)
      ∙ by (seat_of w client).phase (seat_of w client).call (seat_of w client).seq (seat_of w client).boot (seat_of w client).reply (is.callers.each client first within)
    where
      by : (p : SeatPhase) (call : Call) (seq boot : ℕ) (kept : Reply) → IsCaller i.facts script w.history client (record { phase = p; call = call; seq = seq; boot = boot; reply = kept })
          → is_under_way (player_by script client (record { phase = p; call = call; seq = seq; boot = boot; reply = kept })).phase ≡ may_go p (nat_lt seq (length (script_calls script client)))
      by Idle call seq boot kept caller = under_way_if (nat_lt seq (length (script_calls script client)))
      by Left call seq boot kept caller = under_way_if (nat_lt seq (length (script_calls script client)))
      by Asked call seq boot kept caller =
          let next : call_after i.facts script w.history client seq ≡ Some call = ap (call_after i.facts script w.history client) caller.count ∙ caller.next refl in
          under_way_if (nat_lt seq (length (script_calls script client))) ∙ has_more i.facts script w.history client seq call next
      by Held call seq boot kept caller = refl
      by Receipted call seq boot kept caller = refl
      by Blocked call seq boot kept caller = refl

-- and no client beyond the last may
pub turns_beyond : (script : Script) (w : WorldView) (passed last client : ℕ) → length w.seats < client → may_turn (stage_of script w passed last) client ≡ false
turns_beyond script w passed last client beyond = ap (λ (o : Option Player). is_under_way (unwrap_or o (record { done = 0; phase = through })).phase) (no_player script w.seats client beyond)

-- client 1 is at the setup there where it is here
pub setup_alike : (script : Script) (w : WorldView) (passed last : ℕ) → nat_lt (player_of (stage_of script w passed last) 1).done (length script.setup) ≡ is_setting_up script w.seats
setup_alike script w passed last = by w.seats
  where
    by : (seats : List Seat) → nat_lt (player_of (stage_of script (record w { seats = seats }) passed last) 1).done (length script.setup) ≡ is_setting_up script seats
    by [] = refl
    by (s ∷ seats) = refl

-- and there are as many clients
pub clients_alike : (script : Script) (w : WorldView) (passed last : ℕ) → length (stage_of script w passed last).players ≡ length w.seats
clients_alike script w passed last = length_players script 1 w.seats
