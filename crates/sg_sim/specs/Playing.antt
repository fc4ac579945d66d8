-- What contracts see of a play.
use Rattle.std.specs.Prelude.{ℕ, ◌≡◌, ◌⊎◌, Bool, ◌&&◌, nat_le, List, [], ◌∷◌, length, replicate}
use Rattle.std.specs.declared.option.Option.{Option}
use Rattle.sg_facts.specs.Tables.{Compiled}
use Rattle.sg_play.specs.Turning.{StepsInTurn, with_offer}
use Rattle.sg_play.specs.sg_hist.declared.ended.Ended.{Ended}
use Rattle.sg_play.specs.sg_plain.Calls.{most_client}
use Rattle.sg_play.specs.sg_plain.Playing.Turns.{may_take_turn}
use Rattle.sg_play.specs.sg_script.declared.script.Script.{Script}
use Rattle.sg_play.specs.sg_clients.WorldView.{WorldView, happened, new_world, no_seat, seat_of}
use Rattle.sg_play.specs.sg_world.Steps.{LackedMemory}
use Rattle.sg_play.specs.sg_world_laws.Setting.{Setting}
use Rattle.sg_sim.specs.Played.{IsOfWorld}

-- its tables, its script and the plan of its stops, which don't change, its world, how many turns of the schedule were taken or passed
-- over, the client of the last turn, 0 before the first, and whether each turn so far was that of the play without stops
pub record Playing : Type 0 where
  pub tables : Compiled
  pub script : Script
  pub plan : List ℕ
  pub view : WorldView
  pub passed : ℕ
  pub last : ℕ
  pub in_order : Bool

-- whether a client is one of the play's and can take a turn: it has a call under way that doesn't wait, or it has none and has more calls
abbrev pub can_step : Playing → ℕ → Bool
can_step p client = nat_le 1 client && nat_le client (length p.view.seats) && may_take_turn p.script client (seat_of p.view client)

-- a client missed its turn for want of memory: nothing was done, its offer counts as an event and no more, or it offered its call and
-- its step wanted memory
abbrev pub HasMissed : Setting → Script → WorldView → ℕ → WorldView → Type 0
HasMissed z script w client now = (now ≡ w) ⊎ (now ≡ happened w) ⊎ LackedMemory z (with_offer z.iface.facts script w client) client now

-- ---- turns

-- the new world of a script's clients
abbrev pub new_of : Script → WorldView
new_of script = new_world (replicate (most_client script.clients) no_seat)

-- a client took its turn: it offered its next call where it had none under way, made a step, and left after its last call
pub record IsTurnOf (z : Setting) (script : Script) (w : WorldView) (client : ℕ) (now : WorldView) : Type 0 where
  pub handed : Option ℕ
  pub steps : StepsInTurn z script (with_offer z.iface.facts script w client) client handed now

-- clients took their turns, one after the other
abbrev pub AreTurnsOf : Setting → Script → WorldView → List ℕ → WorldView → Type 0
AreTurnsOf z script w [] now = now ≡ w
AreTurnsOf z script w (client ∷ clients) now = (between : WorldView) × IsTurnOf z script w client between × AreTurnsOf z script between clients now

-- a world comes to another by turns of clients
abbrev pub ComesTo : Setting → Script → WorldView → WorldView → Type 0
ComesTo z script w now = (clients : List ℕ) × AreTurnsOf z script w clients now

-- by turns of clients a world comes to one whose history and trace are those of an end
pub record EndsAs (z : Setting) (script : Script) (w : WorldView) (ended : Ended) : Type 0 where
  pub last : WorldView
  pub turns : ComesTo z script w last
  pub its : IsOfWorld last ended
