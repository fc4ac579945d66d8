-- A world that a new one comes to by events goes on to be so.
use Rattle.std.proofs.Common.{◌≡◌, ℕ, Bool, true, false, cond, List, [], ◌∷◌, ◌++◌, None, Some, Ok, Err, length, refl, sym, subst, inl, inr}
use Rattle.std.specs.Prelude.{nat_lt}
use Rattle.std.specs.Result.{IfOk}
use Rattle.std.specs.declared.option.Option.{Option}
use Rattle.std.specs.declared.result.Result.{Result}
use Rattle.sg_facts.specs.sg_base.declared.call.Call.{Call}
use Rattle.sg_shared.specs.Reached.{AreEventsOf, ComesByEvents, IsEventOf, IsReachedEnd}
use Rattle.sg_sim.specs.Playing.{AreTurnsOf, ComesTo, EndsAs, IsTurnOf, new_of}
use Rattle.sg_sim.specs.sg_play.Turning.{after_step, with_call, with_leaving, with_offer}
use Rattle.sg_sim.specs.sg_plain.sg_hist.Clients.{calls_of}
use Rattle.sg_sim.specs.sg_plain.sg_hist.declared.ended.Ended.{Ended}
use Rattle.sg_sim.specs.sg_plain.Calls.{call_after, script_calls}
use Rattle.sg_sim.specs.sg_plain.Playing.Turns.{is_free_phase}
use Rattle.sg_sim.specs.sg_plain.sg_script.declared.script.Script.{Script}
use Rattle.sg_sim.specs.sg_clients.WorldView.{WorldView, happened, seat_of, with_leave}
use Rattle.sg_sim.specs.sg_world.declared.did.Did.{Did}
use Rattle.sg_sim.specs.sg_world.declared.did.Did.TheVariants.{Answered, Blocked as Waits, Booted, Loaded, Lost, Replayed, Served, Skipped, Struck}
use Rattle.sg_sim.specs.sg_world_laws.Setting.{Setting}

module _ (z : Setting) (script : Script) where
  event_more : (worlds : List WorldView) (w now later : WorldView) → AreEventsOf z script w worlds now → IsEventOf z script now later → AreEventsOf z script w (worlds ++ later ∷ []) later
  event_more [] w now later same event = (subst (λ v. IsEventOf z script v later) same event, refl)
  event_more (x ∷ worlds) w now later events event = (events.0, event_more worlds x now later events.1 event)

  -- one event more
  pub come_more : (w now later : WorldView) → ComesByEvents z script w now → IsEventOf z script now later → ComesByEvents z script w later
  come_more w now later comes event = (comes.0 ++ later ∷ [], event_more comes.0 w now later comes.1 event)

  module _ (start : WorldView) where
    -- a turn is an offer, a step and a leave at most
    offer_comes : (w : WorldView) (client : ℕ) → ComesByEvents z script start w → ComesByEvents z script start (with_offer z.iface.facts script w client)
    offer_comes w client comes = by (is_free_phase (seat_of w client).phase) refl (call_after z.iface.facts script w.history client (length (calls_of w.history client))) refl
      where
        by : (b : Bool) → is_free_phase (seat_of w client).phase ≡ b → (o : Option Call) → call_after z.iface.facts script w.history client (length (calls_of w.history client)) ≡ o
            → ComesByEvents z script start (cond b (with_call w client o) w)
        by false free o next = comes
        by true free None next = comes
        by true free (Some call) next = come_more start w (with_call w client (Some call)) comes (inl (record { client = client; call = call; free = free; next = next; is = refl }))

    leave_comes : (w : WorldView) (client : ℕ) → ComesByEvents z script start w → ComesByEvents z script start (with_leaving script w client)
    leave_comes w client comes = by (nat_lt (seat_of w client).seq (length (script_calls script client)))
      where
        by : (more : Bool) → ComesByEvents z script start (cond more w (happened (with_leave w client)))
        by true = comes
        by false = come_more start w (happened (with_leave w client)) comes (inr (inr (inl (record { client = client; is = inr refl }))))

    after_comes : (w : WorldView) (client : ℕ) (did : Did) → ComesByEvents z script start w → ComesByEvents z script start (after_step script client did w)
    after_comes w client Skipped comes = comes
    after_comes w client (Answered reply) comes = leave_comes w client comes
    after_comes w client Lost comes = comes
    after_comes w client Booted comes = comes
    after_comes w client Struck comes = comes
    after_comes w client Replayed comes = comes
    after_comes w client Loaded comes = comes
    after_comes w client Waits comes = comes
    after_comes w client Served comes = comes

    turn_comes : (w now : WorldView) (client : ℕ) → ComesByEvents z script start w → IsTurnOf z script w client now → ComesByEvents z script start now
    turn_comes w now client comes turn =
        let x = with_offer z.iface.facts script w client in
        let later = turn.steps.later in
        let stepped = come_more start x later (offer_comes w client comes) (inr (inl (record { client = client; made = inl (turn.steps.did, turn.steps.stepped) }))) in
        subst (ComesByEvents z script start) (sym turn.steps.is) (after_comes later client turn.steps.did stepped)

    turns_come : (clients : List ℕ) (w now : WorldView) → ComesByEvents z script start w → AreTurnsOf z script w clients now → ComesByEvents z script start now
    turns_come [] w now comes same = subst (ComesByEvents z script start) (sym same) comes
    turns_come (c ∷ clients) w now comes turns = turns_come clients turns.0 now (turn_comes w turns.0 c comes turns.1) turns.2

    pub come_by_turns : (w now : WorldView) → ComesByEvents z script start w → ComesTo z script w now → ComesByEvents z script start now
    come_by_turns w now comes turns = turns_come turns.0 w now comes turns.1

  -- a new world, and its turns
  pub come_setup : (w : WorldView) → ComesTo z script (new_of script) w → ComesByEvents z script (new_of script) w
  come_setup w turns = come_by_turns (new_of script) (new_of script) w ([], refl) turns

  -- what was left was played
  pub reached_end : {E : Type 0} (now : WorldView) (r : Result Ended E) → ComesByEvents z script (new_of script) now → IfOk r (EndsAs z script now) → IfOk r (IsReachedEnd z script)
  reached_end now (Ok ended) comes ends = record { last = ends.last; events = come_by_turns (new_of script) now ends.last comes ends.turns; its = ends.its }
  reached_end now (Err e) comes ends = tt
