-- What a world keeps of how its run would end holds of a new world, and is kept by each event.
use Rattle.std.proofs.Common.{◌≡◌, ◌≢◌, ◌⊎◌, ℕ, zero, suc, ◌+◌, ◌-◌, ◌<◌, ◌≤◌, Bool, true, false, cond, List, [], ◌∷◌, ◌++◌, length, map, refl, sym, ◌∙◌, ap, subst, inl, inr, arith, slice_set}
use Rattle.std.specs.Prelude.{IfOk, OnErr, ◌==◌, replicate, slice_get, unwrap_or}
use Rattle.sg_facts.specs.sg_base.declared.call.Call.{Call}
use Rattle.std.specs.Result.{is_err}
use Rattle.std.specs.declared.result.Result.{Result}
use Rattle.std.specs.declared.result.Result.TheVariants.{Err, Ok as Done}
use Rattle.sg_facts.specs.sg_base.Stops.{asked_after}
use Rattle.sg_facts.specs.sg_base.declared.memory.NoMemory.{NoMemory}
use Rattle.sg_world.specs.Inside.Lines.{NoMemoryLeft}
use Rattle.sg_world_laws.specs.Keeping.{KeepsPromise, Stub}
use Rattle.sg_replay.specs.sg_boot.Cells.{IsCell}
use Rattle.sg_facts.specs.declared.entry.Entry.{Entry}
use Rattle.sg_facts.specs.declared.trace.Item.{Item}
use Rattle.sg_facts.specs.declared.trace.Tag.TheVariants.{Client}
use Rattle.sg_replay.specs.sg_hist.Clients.{calls_of}
use Rattle.sg_world_laws.proofs.sg_clients.Lines.{length_set, seat_here}
use Rattle.sg_world_laws.proofs.sg_recovery_laws.Lists.{each_map}
use Rattle.sg_replay.specs.sg_hist.Growing.{IsOfNoEntry, booted}
use Rattle.sg_replay.specs.sg_hist.Reading.{last_items, older_items}
use Rattle.sg_world_laws.specs.sg_clients.WorldView.{IsFree, Seat, WorldView, happened, in_phase, is_held_phase, is_left_phase, is_offered, new_world, no_seat, offered, seat_of, with_leave, with_mark, with_points, withdrawn_by}
use Rattle.sg_world_laws.specs.sg_clients.declared.mark.Mark.{Mark}
use Rattle.sg_world_laws.specs.sg_clients.declared.mark.MarkKind.TheVariants.{Leave}
use Rattle.sg_world_laws.specs.sg_clients.declared.phase.Phase.{Phase}
use Rattle.sg_world_laws.specs.sg_clients.declared.phase.Phase.TheVariants.{Idle, Asked, Held, Receipted, Blocked, Left}
use Rattle.sg_world_laws.specs.sg_clients.declared.withdrawn.Withdrawn.{Withdrawn}
use Rattle.sg_world_laws.specs.sg_recovery_laws.LastItem.LastPlace.{HaveItems}
use Rattle.sg_world_laws.proofs.Ending.Calls.{none_of_next, test_same}
use Rattle.sg_world_laws.proofs.Ending.Ended.{ending_kept}
use Rattle.sg_world.proofs.Ending.{ending_step}
use Rattle.sg_world_laws.proofs.Ending.Seats.{others_set}
use Rattle.sg_world.proofs.Blocking.{blocked_step, blocked_set}
use Rattle.sg_world.proofs.Losing.{lost_set, lost_step}
use Rattle.sg_world_laws.specs.Ending.{AreBlockedSoFar, AreLostSoFar, IsEnding, IsEndingSoFar}
use Rattle.sg_world.specs.declared.did.Did.{Did}
use Rattle.sg_world.specs.declared.did.Did.TheVariants.{Answered, Blocked as Waits, Booted, Loaded, Lost, Replayed, Served, Skipped, Struck}
use Rattle.sg_world.specs.Steps.{HasStepped, Steps, LackedMemory}
use Rattle.sg_world_laws.proofs.Entered.{numbers_below}
use Rattle.sg_world_laws.specs.Seats.{AreSeated, HaveSeats, IsSeated}
use Rattle.sg_world_laws.specs.Setting.{IsSetting, Setting}

-- it is so of another world with the same history, boots, seats and withdrawn calls
pub ends_same : (z : Setting) (w later : WorldView) → later.history ≡ w.history → later.run.boots ≡ w.run.boots → later.withdrawn ≡ w.withdrawn → later.seats ≡ w.seats → IsEnding z w → IsEnding z later
ends_same z w later h b gone l is = record {
  boots = λ empty.
      subst (λ x. IsEndingSoFar z.iface x later.run.boots later.seats) (sym h) (subst (λ x. IsEndingSoFar z.iface w.history x later.seats) (sym b) (subst (IsEndingSoFar z.iface w.history w.run.boots) (sym l)
      (is.boots (sym gone ∙ empty))));
  blocked =
      subst (λ x. AreBlockedSoFar z.iface.facts x later.run.boots later.seats) (sym h) (subst (λ x. AreBlockedSoFar z.iface.facts w.history x later.seats) (sym b) (subst (AreBlockedSoFar z.iface.facts w.history w.run.boots) (sym l)
      is.blocked));
  lost = λ empty.
      subst (λ x. AreLostSoFar x later.seats (length later.run.boots) [] later.run.boots) (sym h) (subst (λ x. AreLostSoFar w.history later.seats (length x) [] x) (sym b)
      (subst (λ x. AreLostSoFar w.history x (length w.run.boots) [] w.run.boots) (sym l) (is.lost (sym gone ∙ empty))));
}

-- what is used of what a world keeps
pub record IsGround (z : Setting) (w : WorldView) : Type 0 where
  pub seats : HaveSeats z w.history w.withdrawn (length w.run.boots) w.seats
  pub items : HaveItems (older_items [] w.run.boots ++ last_items w.run.boots) w.history
  pub cell : IsCell z.iface.facts w.running w.run.boots

seated_at : (z : Setting) (history : List Entry) (withdrawn : List Withdrawn) (n : ℕ) (seats : List Seat) (k : ℕ) → k < length seats → AreSeated z history withdrawn n seats
    → IsSeated z history (n + k) (unwrap_or (slice_get seats k) no_seat)
seated_at z history withdrawn n [] k below all = absurd (omega (arith, below))
seated_at z history withdrawn n (s ∷ seats) zero below all = subst (λ m. IsSeated z history m s) (let same : n ≡ n + zero = omega arith in same) all.0
seated_at z history withdrawn n (s ∷ seats) (suc k) below all =
    subst (λ m. IsSeated z history m (unwrap_or (slice_get seats k) no_seat)) (let same : n + 1 + k ≡ n + suc k = omega arith in same) (seated_at z history withdrawn (n + 1) seats k (omega (arith, below)) all.2)

seated : (z : Setting) (w : WorldView) (c : ℕ) → 1 ≤ c → c ≤ length w.seats → IsGround z w → IsSeated z w.history c (seat_of w c)
seated z w c first last ground =
    subst (λ m. IsSeated z w.history m (seat_of w c)) (let same : 1 + (c - 1) ≡ c = omega (arith, first) in same)
    (seated_at z w.history w.withdrawn 1 w.seats (c - 1) (omega (arith, first, last)) ground.seats.each)

-- ---- steps

-- no step withdraws a call
withdrawn_stays : (z : Setting) (w : WorldView) (c : ℕ) (did : Did) (later : WorldView) → Steps z w c did later → later.withdrawn ≡ w.withdrawn
withdrawn_stays z w c Skipped later l = ap (λ x. x.withdrawn) l.now
withdrawn_stays z w c (Answered reply) later (inl l) = ap (λ x. x.withdrawn) l.now
withdrawn_stays z w c (Answered reply) later (inr (inl l)) = ap (λ x. x.withdrawn) l.now
withdrawn_stays z w c (Answered reply) later (inr (inr l)) = ap (λ x. x.withdrawn) l.now
withdrawn_stays z w c Lost later l = ap (λ x. x.withdrawn) l.now
withdrawn_stays z w c Booted later l = ap (λ x. x.withdrawn) l.now
withdrawn_stays z w c Struck later (inl l) = ap (λ x. x.withdrawn) l.now
withdrawn_stays z w c Struck later (inr (inl l)) = ap (λ x. x.withdrawn) l.now
withdrawn_stays z w c Struck later (inr (inr (inl l))) = ap (λ x. x.withdrawn) l.now
withdrawn_stays z w c Struck later (inr (inr (inr l))) = ap (λ x. x.withdrawn) l.now ∙ ap (λ x. x.withdrawn) l.commits.now
withdrawn_stays z w c Replayed later l = ap (λ x. x.withdrawn) l.now
withdrawn_stays z w c Loaded later l = ap (λ x. x.withdrawn) l.now
withdrawn_stays z w c Waits later l = ap (λ x. x.withdrawn) l.now
withdrawn_stays z w c Served later (inl l) = ap (λ x. x.withdrawn) l.now ∙ ap (λ x. x.withdrawn) l.commits.now
withdrawn_stays z w c Served later (inr l) = ap (λ x. x.withdrawn) l.now

module _ (z : Setting) (w : WorldView) (c : ℕ) (first : 1 ≤ c) (last : c ≤ length w.seats) (is : IsEnding z w) where
  abbrev s : Seat
  s = seat_of w c

  -- a step was made
  pub kept_stepped : IsSetting z → (did : Did) (now : WorldView) → IsGround z w → HasStepped z w c did now → IsEnding z now
  kept_stepped set did now ground step =
      subst (IsEnding z) (sym step.counted) (record {
        boots = λ none. ending_step z w c first last seat.its ground.cell (is.boots (sym (withdrawn_stays z w c did step.later step.steps) ∙ none)) did step.later step.steps;
        blocked = blocked_step z w c first last seat.its next ground.cell.begun ground.items is.blocked did step.later step.steps;
        lost = λ none. lost_step z set w c first last seat.its next ground.cell (is.lost (sym (withdrawn_stays z w c did step.later step.steps) ∙ none)) did step.later step.steps;
      })
    where
      seat : IsSeated z w.history c (seat_of w c)
      seat = seated z w c first last ground

      next : (item : Item) → is_offered (seat_of w c).phase ≡ true → item.tag ≡ Client c (seat_of w c).call.seq → IsOfNoEntry item w.history
      next item offers tag =
          let entries : ℕ = length (calls_of w.history c) in
          none_of_next item c (seat_of w c).call.seq entries w.history tag (omega (arith, seat.next offers, seat.count))
          (each_map (λ e. e.call.client ≡ c → e.call.seq ≤ entries) (λ e. (e.call.client == c) ≡ true → e.call.seq ≤ entries) w.history
          (λ e below own. below (test_same e.call.client c own)) (numbers_below [] w.history c ground.seats.numbered))

  -- or wanted memory
  pub kept_wanted : (now : WorldView) → LackedMemory z w c now → IsEnding z now
  kept_wanted now wants = subst (IsEnding z) (sym wants.counted) (record { boots = is.boots; blocked = is.blocked; lost = is.lost })

  -- the seat of a client is another, which neither waits nor holds a reply, and it wasn't asked
  seat_changed : (later : WorldView) (new : Seat) → (s.phase ≡ Asked → ⊥) → (s.phase ≡ Held → ⊥) → (new.phase ≡ Held → ⊥) → (new.phase ≡ Blocked → ⊥) → is_held_phase new.phase ≡ false → later.history ≡ w.history → later.run.boots ≡ w.run.boots
      → later.withdrawn ≡ w.withdrawn → later.seats ≡ slice_set w.seats (c - 1) new → IsEnding z later
  seat_changed later new not unheld none free held h b gone l = record {
    boots = λ empty.
        subst (λ x. IsEndingSoFar z.iface x later.run.boots later.seats) (sym h) (subst (λ x. IsEndingSoFar z.iface w.history x later.seats) (sym b) (subst (IsEndingSoFar z.iface w.history w.run.boots) (sym l)
        (ending_set (sym gone ∙ empty))));
    blocked =
        subst (λ x. AreBlockedSoFar z.iface.facts x later.run.boots later.seats) (sym h) (subst (λ x. AreBlockedSoFar z.iface.facts w.history x later.seats) (sym b) (subst (AreBlockedSoFar z.iface.facts w.history w.run.boots) (sym l)
        (blocked_set z.iface.facts w.history w.run.boots w.seats c new first last free (λ all. held) is.blocked)));
    lost = λ empty.
        subst (λ x. AreLostSoFar x later.seats (length later.run.boots) [] later.run.boots) (sym h) (subst (λ x. AreLostSoFar w.history later.seats (length x) [] x) (sym b)
        (subst (λ x. AreLostSoFar w.history x (length w.run.boots) [] w.run.boots) (sym l)
        (lost_set w.history w.run.boots w.seats c new first unheld (is.lost (sym gone ∙ empty)))));
  }
    where
      ending_set : w.withdrawn ≡ [] → IsEndingSoFar z.iface w.history w.run.boots (slice_set w.seats (c - 1) new)
      ending_set empty =
          ending_kept z.iface w.history w.history w.run.boots w.seats (slice_set w.seats (c - 1) new) c (is.boots empty) (length_set w.seats (c - 1) new) (others_set w.seats c new first last) refl
          (λ asked passes. not asked) (λ holds. none (ap (λ x. x.phase) (sym (seat_here w.seats c new first last)) ∙ holds))

  free_asks : (p : Phase) → IsFree p → p ≡ Asked → ⊥
  free_asks Idle free is = cc is
  free_asks Left free is = cc is
  free_asks Asked free is = absurd free
  free_asks Held free is = absurd free
  free_asks Receipted free is = absurd free
  free_asks Blocked free is = absurd free

  free_holds : (p : Phase) → IsFree p → p ≡ Held → ⊥
  free_holds Idle free is = cc is
  free_holds Left free is = cc is
  free_holds Asked free is = absurd free
  free_holds Held free is = absurd free
  free_holds Receipted free is = absurd free
  free_holds Blocked free is = absurd free

  -- a client offers a call
  pub kept_offered : (call : Call) → IsFree s.phase → IsEnding z (happened (offered w c call))
  kept_offered call free =
      seat_changed (happened (offered w c call)) (record s { phase = Asked; call = call }) (free_asks s.phase free) (free_holds s.phase free) (λ a. cc a) (λ a. cc a) refl refl refl refl refl

  -- a client leaves
  pub kept_left : IsFree s.phase → IsEnding z (happened (with_leave w c))
  kept_left free = by (is_left_phase s.phase) refl
    where
      leaves : WorldView
      leaves = with_mark (in_phase w c Left) c Leave

      by : (b : Bool) → is_left_phase s.phase ≡ b → IsEnding z (happened (with_leave w c))
      by true left = subst (λ b. IsEnding z (happened (cond b w leaves))) (sym left) (record { boots = is.boots; blocked = is.blocked; lost = is.lost })
      by false left =
          subst (λ b. IsEnding z (happened (cond b w leaves))) (sym left)
          (seat_changed (happened leaves) (record s { phase = Left }) (free_asks s.phase free) (free_holds s.phase free) (λ a. cc a) (λ a. cc a) refl refl refl refl refl)

  some_gone : (xs : List Withdrawn) (x : Withdrawn) → xs ++ x ∷ [] ≢ []
  some_gone [] x none = cc none
  some_gone (y ∷ xs) x none = cc none

  -- a client withdraws its call: of the boots nothing is kept any more
  pub kept_withdrawn : IsEnding z (happened (withdrawn_by w c))
  kept_withdrawn = record {
    boots = λ none. absurd (some_gone w.withdrawn (record { call = s.call; phases = map (λ t. t.phase) w.seats; at = length w.history }) none);
    blocked = blocked_set z.iface.facts w.history w.run.boots w.seats c (record s { phase = Idle }) first last (λ a. cc a) (λ all. refl) is.blocked;
    lost = λ none. absurd (some_gone w.withdrawn (record { call = s.call; phases = map (λ t. t.phase) w.seats; at = length w.history }) none);
  }

-- ---- a new world

nobody_at : (n k : ℕ) → unwrap_or (slice_get (replicate n no_seat) k) no_seat ≡ no_seat
nobody_at zero k = refl
nobody_at (suc n) zero = refl
nobody_at (suc n) (suc k) = nobody_at n k

-- in a new world nothing was done
pub kept_new : (z : Setting) (n : ℕ) → IsEnding z (new_world (replicate n no_seat))
kept_new z n = record {
  boots = λ none. record { ends = inl (tt, tt); held = λ client from to holds. cc (ap (λ (t : Seat). t.phase) (sym (nobody_at n (client - 1))) ∙ holds) };
  blocked = λ client from to. record {
    blocked = λ blocked. cc (ap (λ (t : Seat). t.phase) (sym (nobody_at n (client - 1))) ∙ blocked);
    visible = λ all. ap (λ (t : Seat). is_held_phase t.phase) (nobody_at n (client - 1));
  };
  lost = λ none. tt;
}

-- ---- what a step answers

module _ (z : Setting) (w : WorldView) (c : ℕ) (first : 1 ≤ c) (last : c ≤ length w.seats) (stub : Stub) (set : IsSetting z) (keeps : KeepsPromise z w stub) (is : IsEnding z w) where
  ground : IsGround z w
  ground = record { seats = keeps.seats; items = keeps.items; cell = keeps.cell }

  -- a step was made
  pub ends_ok : (later : WorldView) (r : Result Did NoMemory) → is_err r ≡ false → IfOk r (λ did. Steps z w c did later) → IsEnding z later
  ends_ok later (Done did) ok steps =
      ends_same z (happened later) later refl refl refl refl (kept_stepped z w c first last is set did (happened later) ground (record { later = later; steps = steps; counted = refl }))
  ends_ok later (Err error) ok steps = absurd (cc ok)

  -- or wanted memory
  pub ends_err : (later : WorldView) (r : Result Did NoMemory) → is_err r ≡ true → OnErr r (NoMemoryLeft z w c later) → IsEnding z later
  ends_err later (Done did) err left = absurd (cc err)
  ends_err later (Err error) err left = by left.now
    where
      by : (later ≡ w) ⊎ (later ≡ with_points w (asked_after w.run.points 1)) → IsEnding z later
      by (inl same) = subst (IsEnding z) (sym same) is
      by (inr more) = subst (IsEnding z) (sym more) (ends_same z w (with_points w (asked_after w.run.points 1)) refl refl refl refl is)

-- ---- the parts of a world

-- a client left
pub ends_left : (z : Setting) (w : WorldView) (c : ℕ) (first : 1 ≤ c) (last : c ≤ length w.seats) → IsEnding z w → IsFree (seat_of w c).phase → is_left_phase (seat_of w c).phase ≡ false
    → (seats : List Seat) → seats ≡ slice_set w.seats (c - 1) (record (seat_of w c) { phase = Left }) → (marks : List Mark) (events : ℕ) → IsEnding z (record w { seats = seats; marks = marks; events = events })
ends_left z w c first last is free not_left seats changed marks events =
    let leaves : WorldView = with_mark (in_phase w c Left) c Leave in
    ends_same z (happened leaves) (record w { seats = seats; marks = marks; events = events }) refl refl refl changed
    (subst (λ b. IsEnding z (happened (cond b w leaves))) not_left (kept_left z w c first last is free))

-- a call was withdrawn
pub ends_withdrawn : (z : Setting) (w : WorldView) (c : ℕ) (first : 1 ≤ c) (last : c ≤ length w.seats) → IsEnding z w
    → (seats : List Seat) → seats ≡ slice_set w.seats (c - 1) (record (seat_of w c) { phase = Idle }) → (gone : List Withdrawn) (x : Withdrawn) → gone ≡ w.withdrawn ++ x ∷ [] → (marks : List Mark) (events : ℕ)
    → IsEnding z (record w { seats = seats; withdrawn = gone; marks = marks; events = events })
ends_withdrawn z w c first last is seats changed gone x more marks events = record {
  boots = λ none. absurd (some_gone z w c first last is w.withdrawn x (sym more ∙ none));
  blocked = subst (AreBlockedSoFar z.iface.facts w.history w.run.boots) (sym changed) (blocked_set z.iface.facts w.history w.run.boots w.seats c (record (seat_of w c) { phase = Idle }) first last (λ a. cc a) (λ all. refl) is.blocked);
  lost = λ none. absurd (some_gone z w c first last is w.withdrawn x (sym more ∙ none));
}

-- nothing was done
pub ends_new : (z : Setting) (n : ℕ) (w : WorldView) → w.history ≡ [] → w.run.boots ≡ booted [] → w.withdrawn ≡ [] → w.seats ≡ replicate n no_seat → IsEnding z w
ends_new z n w h b gone l = ends_same z (new_world (replicate n no_seat)) w h b gone l (kept_new z n)
