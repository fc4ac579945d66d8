-- A world that threads play a script on keeps what it keeps, after every event.
use Rattle.std.proofs.Common.{◌≡◌, ℕ, ◌≤◌, Bool, true, false, cond, List, [], ◌∷◌, ◌++◌, Some, Ok, Err, OnErr, length, refl, sym, ◌∙◌, ap, inl, inr}
use Rattle.std.specs.Result.{IfOk}
use Rattle.std.specs.declared.result.Result.{Result}
use Rattle.sg_facts.specs.sg_base.declared.call.Call.{Call}
use Rattle.sg_facts.specs.Legal.{LegalFrom}
use Rattle.sg_facts.specs.Object.{empty_object}
use Rattle.sg_log.specs.Names.{IsSeatOf}
use Rattle.sg_log.specs.sg_turn.Told.{HasNoCall, Standing, asking, has_reply, idle, left}
use Rattle.sg_shared.proofs.Reaching.{come_more}
use Rattle.sg_shared.specs.Inside.Keeping.{KeepsPlayed}
use Rattle.sg_sim.proofs.sg_play.GoingOn.{goes_happened, goes_left, goes_offered, goes_stepped, goes_wanted}
use Rattle.sg_sim.proofs.sg_play.Withdrawn.{withdrawn_stepped, withdrawn_wanted}
use Rattle.sg_sim.specs.Playing.{new_of}
use Rattle.sg_sim.specs.sg_play.Recovering.{RecoversSoFar}
use Rattle.sg_sim.specs.sg_plain.sg_hist.Clients.{calls_of}
use Rattle.sg_sim.specs.sg_plain.Calls.{call_after}
use Rattle.sg_sim.specs.sg_plain.Playing.Turns.{is_free_phase}
use Rattle.sg_sim.specs.sg_plain.sg_script.declared.script.Script.{Script}
use Rattle.sg_sim.specs.sg_clients.WorldView.{IsFree, Seat, WorldView, happened, in_phase, is_left_phase, offered, seat_of, with_leave, with_mark, withdrawn_by}
use Rattle.sg_sim.specs.sg_clients.declared.mark.MarkKind.TheVariants.{Leave}
use Rattle.sg_sim.specs.sg_clients.declared.phase.Phase.{Phase}
use Rattle.sg_sim.specs.sg_clients.declared.phase.Phase.TheVariants.{Idle, Asked, Held, Receipted, Blocked, Left}
use Rattle.sg_sim.specs.sg_clients.declared.withdrawn.Withdrawn.{Withdrawn}
use Rattle.sg_sim.specs.sg_world.declared.did.Did.{Did}
use Rattle.sg_sim.specs.sg_world.Steps.{AnswersLast, HasStepped, LackedMemory}
use Rattle.sg_sim.specs.sg_world_laws.Setting.{Setting}

-- who has no call under way by the log has none by its seat
pub free_seat : (st : Standing) (s : Seat) → IsSeatOf st s → HasNoCall st → is_free_phase s.phase ≡ true
free_seat idle s is free = ap is_free_phase is
free_seat left s is free = ap is_free_phase is
free_seat (asking call) s is free = absurd free
free_seat (has_reply call reply) s is free = absurd free

free_phase : (p : Phase) → is_free_phase p ≡ true → IsFree p
free_phase Idle free = tt
free_phase Left free = tt
free_phase Asked free = absurd (cc free)
free_phase Held free = absurd (cc free)
free_phase Receipted free = absurd (cc free)
free_phase Blocked free = absurd (cc free)

some_more : (xs : List Withdrawn) (x : Withdrawn) → xs ++ x ∷ [] ≡ [] → ⊥
some_more [] x none = cc none
some_more (y ∷ xs) x none = cc none

module _ (z : Setting) (script : Script) (w : WorldView) (is : KeepsPlayed z script w) where
  -- nothing was done, but for the event's count
  pub kept_happened : KeepsPlayed z script (happened w)
  kept_happened = record {
    none_waits = is.none_waits;
    goes = λ none. goes_happened z script w (is.goes none);
    comes = come_more z script (new_of script) w (happened w) is.comes (inr (inr (inr refl)));
  }

  module _ (c : ℕ) (first : 1 ≤ c) (last : c ≤ length w.seats) where
    pub kept_offered : is_free_phase (seat_of w c).phase ≡ true → (call : Call) → call_after z.iface.facts script w.history c (length (calls_of w.history c)) ≡ Some call
        → KeepsPlayed z script (happened (offered w c call))
    kept_offered free call next = record {
      none_waits = is.none_waits;
      goes = λ none. goes_offered z script w c first last (is.goes none) free call next;
      comes = come_more z script (new_of script) w (happened (offered w c call)) is.comes (inl (record { client = c; call = call; free = free; next = next; is = refl }));
    }

    pub kept_stepped : {E : Type 0} (r : Result Did E) (now : WorldView) → RecoversSoFar z w → LegalFrom z.iface z.ask empty_object now.history
        → IfOk r (λ did. HasStepped z w c did now) → OnErr r (LackedMemory z w c now) → IfOk r (AnswersLast now c) → KeepsPlayed z script now
    kept_stepped (Ok did) now before legal steps wants answers = record {
      none_waits = is.none_waits;
      goes = λ none.
          let was : w.withdrawn ≡ [] = sym (withdrawn_stepped z w c did now steps) ∙ none in
          goes_stepped z script w c first last (is.goes was) was is.none_waits did now before legal steps answers;
      comes = come_more z script (new_of script) w now is.comes (inr (inl (record { client = c; made = inl (did, steps) })));
    }
    kept_stepped (Err e) now before legal steps wants answers = record {
      none_waits = is.none_waits;
      goes = λ none. goes_wanted z script w c now (is.goes (sym (withdrawn_wanted z w c now wants) ∙ none)) wants;
      comes = come_more z script (new_of script) w now is.comes (inr (inl (record { client = c; made = inr wants })));
    }

    pub kept_withdrawn : KeepsPlayed z script (happened (withdrawn_by w c))
    kept_withdrawn = record {
      none_waits = is.none_waits;
      goes = λ none. absurd (some_more w.withdrawn _ none);
      comes = come_more z script (new_of script) w (happened (withdrawn_by w c)) is.comes (inr (inr (inl (record { client = c; is = inl refl }))));
    }

    pub kept_left : is_free_phase (seat_of w c).phase ≡ true → KeepsPlayed z script (happened (with_leave w c))
    kept_left free = record {
      none_waits = is.none_waits;
      goes = λ none. goes_left z script w c first last (is.goes (same none)) (free_phase (seat_of w c).phase free);
      comes = come_more z script (new_of script) w (happened (with_leave w c)) is.comes (inr (inr (inl (record { client = c; is = inr refl }))));
    }
      where
        same : (happened (with_leave w c)).withdrawn ≡ [] → w.withdrawn ≡ []
        same none = by (is_left_phase (seat_of w c).phase) none
          where
            by : (b : Bool) → (cond b w (with_mark (in_phase w c Left) c Leave)).withdrawn ≡ [] → w.withdrawn ≡ []
            by true is = is
            by false is = is
