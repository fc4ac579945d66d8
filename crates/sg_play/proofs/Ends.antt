-- Where nobody may take a turn, the run of a play ends as it should: its boots, and who waits.
use Rattle.std.proofs.Common.{◌≡◌, ◌≢◌, ◌⊎◌, ℕ, zero, suc, ◌+◌, ◌-◌, ◌<◌, ◌≤◌, Bool, true, false, cond, List, [], ◌∷◌, length, refl, sym, ap, subst, inl, inr, arith}
use Rattle.std.specs.Prelude.{nat_lt, slice_get, unwrap_or}
use Rattle.sg_facts.specs.sg_base.Lists.{Each}
use Rattle.sg_facts.specs.declared.entry.Entry.{Entry}
use Rattle.sg_facts.specs.Facts.{Facts}
use Rattle.sg_facts.specs.Trace.{Boot}
use Rattle.sg_plain.specs.Calls.{script_calls}
use Rattle.sg_plain.specs.Playing.Ends.{end_of, ends_from, has_calls}
use Rattle.sg_plain.specs.Playing.Turns.{NobodyGoes, may_go}
use Rattle.sg_plain.specs.sg_script.declared.script.Script.{Script}
use Rattle.sg_plain.specs.sg_clients.WorldView.{Seat, WorldView, is_blocked_phase, no_seat, seat_of}
use Rattle.sg_plain.specs.sg_clients.declared.phase.Phase.{Phase}
use Rattle.sg_plain.specs.sg_clients.declared.phase.Phase.TheVariants.{Idle, Asked, Held, Receipted, Blocked, Left}
use Rattle.sg_plain.specs.sg_hist.Ending.{AreLost}
use Rattle.sg_plain.specs.sg_hist.Inside.Parts.{EndsQuiet, EndsUsed, IsStillBlocked, waiting_in, waking_entries}
use Rattle.sg_plain.specs.sg_hist.Reading.{last_items}
use Rattle.sg_plain.specs.sg_hist.Recovered.{waiting}
use Rattle.sg_plain.specs.sg_hist.declared.ended.End.{End}
use Rattle.sg_world.proofs.sg_recovery_laws.Lists.{each_append}
use Rattle.sg_world.proofs.Losing.{over_in}
use Rattle.sg_world.specs.sg_world_laws.Ending.{EndsWell, IsBlockedSeat, IsEnding, SomebodyAsks}
use Rattle.sg_world.specs.sg_world_laws.Setting.{Setting}

-- what is asked of the end of a run
pub record IsOver (facts : Facts) (history : List Entry) (boots : List Boot) (ends : List (ℕ × End)) : Type 0 where
  pub blocked : Each (IsStillBlocked facts history boots) (waiting ends)
  pub used : 2 ≤ length boots → last_items boots ≢ []
  pub quiet : EndsQuiet facts boots
  pub lost : AreLost history [] boots

blocked_is : (p : Phase) → is_blocked_phase p ≡ true → p ≡ Blocked
blocked_is Blocked is = refl
blocked_is Idle is = absurd (cc is)
blocked_is Asked is = absurd (cc is)
blocked_is Held is = absurd (cc is)
blocked_is Receipted is = absurd (cc is)
blocked_is Left is = absurd (cc is)

-- the end of a client's seat
blocked_end : (facts : Facts) (history : List Entry) (boots : List Boot) (s : Seat) → IsBlockedSeat facts (waking_entries facts history) boots s → Each (IsStillBlocked facts history boots) (waiting_in (end_of s))
blocked_end facts history boots s is = by (is_blocked_phase s.phase) refl
  where
    by : (b : Bool) → is_blocked_phase s.phase ≡ b → Each (IsStillBlocked facts history boots) (waiting_in (end_of s))
    by true waits = subst (λ b. Each (IsStillBlocked facts history boots) (waiting_in (cond b (end_of (record s { phase = Blocked })) (end_of (record s { phase = Idle }))))) (sym waits) (is.blocked (blocked_is s.phase waits), tt)
    by false waits = subst (λ b. Each (IsStillBlocked facts history boots) (waiting_in (cond b (end_of (record s { phase = Blocked })) (end_of (record s { phase = Idle }))))) (sym waits) tt

-- the ends of some seats
blocked_ends : (facts : Facts) (history : List Entry) (boots : List Boot) (script : Script) (n : ℕ) (seats : List Seat)
    → ((k : ℕ) → k < length seats → IsBlockedSeat facts (waking_entries facts history) boots (unwrap_or (slice_get seats k) no_seat)) → Each (IsStillBlocked facts history boots) (waiting (ends_from script n seats))
blocked_ends facts history boots script n [] all = tt
blocked_ends facts history boots script n (s ∷ seats) all =
    by (has_calls script n) (blocked_end facts history boots s (all zero (omega arith))) (blocked_ends facts history boots script (n + 1) seats (λ k below. all (suc k) (omega (arith, below))))
  where
    by : (b : Bool) → Each (IsStillBlocked facts history boots) (waiting_in (end_of s)) → Each (IsStillBlocked facts history boots) (waiting (ends_from script (n + 1) seats))
        → Each (IsStillBlocked facts history boots) (waiting (cond b ((n, end_of s) ∷ ends_from script (n + 1) seats) (ends_from script (n + 1) seats)))
    by true own rest = each_append (IsStillBlocked facts history boots) (waiting_in (end_of s)) (waiting (ends_from script (n + 1) seats)) own rest
    by false own rest = rest

-- the last of several boots has an item
used_end : (boots : List Boot) → EndsUsed boots → 2 ≤ length boots → last_items boots ≢ []
used_end [] used two = absurd (omega (arith, two))
used_end (b ∷ []) used two = absurd (omega (arith, two))
used_end (b ∷ c ∷ []) used two = used
used_end (b ∷ c ∷ d ∷ boots) used two = used_end (c ∷ d ∷ boots) used (omega arith)

-- a play that is over
pub over_by : (z : Setting) (script : Script) (w : WorldView) → IsEnding z w → w.withdrawn ≡ [] → NobodyGoes script w.seats → IsOver z.iface.facts w.history w.run.boots (ends_from script 1 w.seats)
over_by z script w is none nobody =
    let ends : EndsWell z.iface.facts w.run.boots = by (is.boots none).ends in
    record {
      blocked = blocked_ends z.iface.facts w.history w.run.boots script 1 w.seats (λ k below.
          subst (λ j. IsBlockedSeat z.iface.facts (waking_entries z.iface.facts w.history) w.run.boots (unwrap_or (slice_get w.seats j) no_seat)) (let same : k + 1 - 1 ≡ k = omega arith in same)
          (is.blocked (k + 1) (omega arith) (omega (arith, below))));
      used = used_end w.run.boots ends.0;
      quiet = ends.1;
      lost = over_in w.history w.seats w.run.boots nobody_holds (is.lost none);
    }
  where
    by : EndsWell z.iface.facts w.run.boots ⊎ SomebodyAsks z.iface w.history w.seats → EndsWell z.iface.facts w.run.boots
    by (inl ends) = ends
    by (inr asks) =
        let more = nat_lt (seat_of w asks.client).seq (length (script_calls script asks.client)) in
        absurd (let goes : may_go (seat_of w asks.client).phase more ≡ true = ap (λ p. may_go p more) asks.phase in let none = nobody asks.client asks.first asks.last in cc (goes, none))

    nobody_holds : (client : ℕ) → 1 ≤ client → client ≤ length w.seats → (seat_of w client).phase ≡ Held → ⊥
    nobody_holds client first last held =
        let more = nat_lt (seat_of w client).seq (length (script_calls script client)) in
        let goes : may_go (seat_of w client).phase more ≡ true = ap (λ p. may_go p more) held in let none = nobody client first last in cc (goes, none)
