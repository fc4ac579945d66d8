-- Turns of clients, one after the other.
use Rattle.std.proofs.Common.{ℕ, List, [], ◌∷◌, ◌++◌, refl, subst}
use Rattle.sg_play.specs.sg_hist.declared.ended.Ended.{Ended}
use Rattle.sg_play.specs.sg_script.declared.script.Script.{Script}
use Rattle.sg_play.specs.sg_clients.WorldView.{WorldView}
use Rattle.sg_play.specs.sg_world_laws.Setting.{Setting}
use Rattle.sg_sim.specs.Playing.{AreTurnsOf, ComesTo, EndsAs, IsTurnOf}

module _ (z : Setting) (script : Script) where
  turns_more : (clients : List ℕ) (client : ℕ) (w now later : WorldView) → AreTurnsOf z script w clients now → IsTurnOf z script now client later → AreTurnsOf z script w (clients ++ client ∷ []) later
  turns_more [] client w now later same turn = (later, subst (λ v. IsTurnOf z script v client later) same turn, refl)
  turns_more (c ∷ clients) client w now later turns turn = (turns.0, turns.1, turns_more clients client turns.0 now later turns.2 turn)

  pub turn_more : (client : ℕ) (w now later : WorldView) → ComesTo z script w now → IsTurnOf z script now client later → ComesTo z script w later
  turn_more client w now later comes turn = (comes.0 ++ client ∷ [], turns_more comes.0 client w now later comes.1 turn)

  turns_join : (clients others : List ℕ) (w now later : WorldView) → AreTurnsOf z script w clients now → AreTurnsOf z script now others later → AreTurnsOf z script w (clients ++ others) later
  turns_join [] others w now later same turns = subst (λ v. AreTurnsOf z script v others later) same turns
  turns_join (c ∷ clients) others w now later turns more = (turns.0, turns.1, turns_join clients others turns.0 now later turns.2 more)

  -- turns, and turns after them
  pub ends_after : (w now : WorldView) (ended : Ended) → ComesTo z script w now → EndsAs z script now ended → EndsAs z script w ended
  ends_after w now ended comes ends = record {
    last = ends.last;
    turns = (comes.0 ++ ends.turns.0, turns_join comes.0 ends.turns.0 w now ends.last comes.1 ends.turns.1);
    its = ends.its;
  }
