-- The calls that clients made are still made whatever a client does, and none of a client has a greater number than the one under way.
use Rattle.std.proofs.Common.{◌≡◌, ◌⊎◌, ℕ, zero, suc, ◌+◌, ◌-◌, ◌<◌, ◌≤◌, Bool, true, false, cond, List, [], ◌∷◌, ◌++◌, flat_map, length, map, refl, sym, ◌∙◌, ap, subst, inl, inr, arith, slice_set}
use Rattle.std.specs.Prelude.{◌==◌, slice_get, unwrap_or}
use Rattle.std.specs.List.{Contains}
use Rattle.std.proofs.lemmas.List.Elements.{Contains-append_cases, Contains-append_right}
use Rattle.sg_facts.specs.sg_base.Lists.{Each}
use Rattle.sg_facts.specs.sg_base.declared.call.Call.{Call}
use Rattle.sg_facts.specs.declared.entry.Entry.{Entry}
use Rattle.sg_facts.specs.Facts.{Facts}
use Rattle.sg_facts.proofs.Replaying.Found.{same_test}
use Rattle.sg_plain.specs.Playing.Callers.{AreCallers}
use Rattle.sg_plain.specs.sg_script.declared.script.Script.{Script}
use Rattle.sg_plain.specs.sg_clients.WorldView.{Seat, WorldView, is_offered, new_world, no_seat, offered_by, seat_in, seat_of, unanswered, woken_seat}
use Rattle.sg_plain.specs.sg_clients.declared.phase.Phase.TheVariants.{Asked, Blocked}
use Rattle.sg_plain.specs.sg_hist.Growing.{IsLastCall}
use Rattle.sg_plain.specs.sg_hist.Inside.Parts.{calls_made}
use Rattle.sg_plain.proofs.sg_clients.Lines.{length_map, seat_woken}
use Rattle.sg_world.proofs.sg_recovery_laws.Lists.{each_append, each_contains, each_map}
use Rattle.sg_world.proofs.sg_world_laws.Seating.{HasSeat, has_seat, one_is, own_offered, still_offered}
use Rattle.sg_world.proofs.sg_world_laws.Turns.{seat_there}
use Rattle.sg_world.proofs.sg_world_laws.Woken.{offered_woken, woken_is}
use Rattle.sg_play.proofs.Waking.Calls.{entries_below}
use Rattle.sg_play.proofs.Waking.Shapes.{call_is_next, call_is_own}

-- ---- the seat of a client

module _ (seats : List Seat) (c : ℕ) (first : 1 ≤ c) (last : c ≤ length seats) where
  abbrev s : Seat
  s = seat_in seats c

  at : HasSeat seats (c - 1) (seat_in seats c)
  at = has_seat seats (c - 1) s (seat_there (new_world seats) c first last)

  -- a call that isn't answered is its own, or is still among them when the seat is another
  pub left_set : (new : Seat) (gone : List Call) (x : Call) → Contains (flat_map offered_by seats ++ gone) x
      → ((is_offered (seat_in seats c).phase ≡ true) × (x ≡ (seat_in seats c).call)) ⊎ Contains (flat_map offered_by (slice_set seats (c - 1) new) ++ gone) x
  left_set new gone x has =
      by (still_offered at.front at.back s new gone gone x (λ y is. is) (subst (λ l. Contains (flat_map offered_by l ++ gone) x) at.is has))
    where
      own : (b : Bool) → is_offered s.phase ≡ b → Contains (cond b (s.call ∷ []) []) x → (is_offered s.phase ≡ true) × (x ≡ s.call)
      own true offers has = (offers, one_is s.call x has)
      own false offers has = absurd (omega (arith, has.1))

      by : Contains (offered_by s) x ⊎ Contains (flat_map offered_by (at.front ++ new ∷ at.back) ++ gone) x
          → ((is_offered s.phase ≡ true) × (x ≡ s.call)) ⊎ Contains (flat_map offered_by (slice_set seats (c - 1) new) ++ gone) x
      by (inl mine) = inl (own (is_offered s.phase) refl mine)
      by (inr rest) = inr (subst (λ l. Contains (flat_map offered_by l ++ gone) x) (sym (at.set new)) rest)

  -- its own call isn't answered while it offers it
  pub own_left : (gone : List Call) → is_offered (seat_in seats c).phase ≡ true → Contains (flat_map offered_by seats ++ gone) (seat_in seats c).call
  own_left gone offers = subst (λ l. Contains (flat_map offered_by l ++ gone) s.call) (sym at.is) (own_offered at.front at.back s gone offers)

-- a seat that goes on to offer its call
pub kept_set : (seats : List Seat) (c : ℕ) (first : 1 ≤ c) (last : c ≤ length seats) (new : Seat) (gone : List Call)
    → (is_offered (seat_in seats c).phase ≡ true → (is_offered new.phase ≡ true) × (new.call ≡ (seat_in seats c).call)) → (x : Call) → Contains (flat_map offered_by seats ++ gone) x
    → Contains (flat_map offered_by (slice_set seats (c - 1) new) ++ gone) x
kept_set seats c first last new gone goes_on x has = by (left_set seats c first last new gone x has)
  where
    later : HasSeat seats (c - 1) (seat_in seats c)
    later = at seats c first last

    by : ((is_offered (seat_in seats c).phase ≡ true) × (x ≡ (seat_in seats c).call)) ⊎ Contains (flat_map offered_by (slice_set seats (c - 1) new) ++ gone) x
        → Contains (flat_map offered_by (slice_set seats (c - 1) new) ++ gone) x
    by (inl own) =
        let on = goes_on own.0 in
        subst (Contains (flat_map offered_by (slice_set seats (c - 1) new) ++ gone)) (on.1 ∙ sym own.1)
        (subst (λ l. Contains (flat_map offered_by l ++ gone) new.call) (sym (later.set new)) (own_offered later.front later.back new gone on.0))
    by (inr rest) = rest

call_woken : (test : Call → Bool) (s : Seat) → (woken_seat test s).call ≡ s.call
call_woken test s = by (woken_is test s)
  where
    by : (woken_seat test s ≡ s) ⊎ ((s.phase ≡ Blocked) × (woken_seat test s ≡ record s { phase = Asked })) → (woken_seat test s).call ≡ s.call
    by (inl same) = ap (λ (x : Seat). x.call) same
    by (inr was) = ap (λ (x : Seat). x.call) was.1

-- clients are woken
pub kept_woken : (test : Call → Bool) (seats : List Seat) (gone : List Call) (x : Call) → Contains (flat_map offered_by seats ++ gone) x → Contains (flat_map offered_by (map (woken_seat test) seats) ++ gone) x
kept_woken test seats gone x has = subst (λ l. Contains (l ++ gone) x) (sym (offered_woken test seats)) has

-- a client's call is entered, and clients are woken
pub left_entered : (test : Call → Bool) (seats : List Seat) (c : ℕ) (first : 1 ≤ c) (last : c ≤ length seats) (new : Seat) (gone : List Call) (x : Call) → Contains (flat_map offered_by seats ++ gone) x
    → (x ≡ (seat_in seats c).call) ⊎ Contains (flat_map offered_by (slice_set (map (woken_seat test) seats) (c - 1) new) ++ gone) x
left_entered test seats c first last new gone x has =
    by (left_set (map (woken_seat test) seats) c first (subst (λ n. c ≤ n) (sym (length_map (woken_seat test) seats)) last) new gone x (kept_woken test seats gone x has))
  where
    by : ((is_offered (seat_in (map (woken_seat test) seats) c).phase ≡ true) × (x ≡ (seat_in (map (woken_seat test) seats) c).call)) ⊎ Contains (flat_map offered_by (slice_set (map (woken_seat test) seats) (c - 1) new) ++ gone) x
        → (x ≡ (seat_in seats c).call) ⊎ Contains (flat_map offered_by (slice_set (map (woken_seat test) seats) (c - 1) new) ++ gone) x
    by (inl own) = inl (own.1 ∙ ap (λ (t : Seat). t.call) (seat_woken test seats c) ∙ call_woken test (seat_in seats c))
    by (inr rest) = inr rest

-- ---- numbers

each_offered : (P : Call → Type 0) (seats : List Seat) → ((k : ℕ) → k < length seats → is_offered (unwrap_or (slice_get seats k) no_seat).phase ≡ true → P (unwrap_or (slice_get seats k) no_seat).call) → Each P (flat_map offered_by seats)
each_offered P [] all = tt
each_offered P (s ∷ seats) all =
    each_append P (offered_by s) (flat_map offered_by seats) (by (is_offered s.phase) refl) (each_offered P seats (λ k below. all (suc k) (omega (arith, below))))
  where
    by : (b : Bool) → is_offered s.phase ≡ b → Each P (cond b (s.call ∷ []) [])
    by true offers = (all zero (omega arith) offers, tt)
    by false offers = tt

module _ (facts : Facts) (script : Script) (w : WorldView) (callers : AreCallers facts script w.history w.seats) (none : w.withdrawn ≡ []) (c : ℕ) (first : 1 ≤ c) (last : c ≤ length w.seats)
    (offers : is_offered (seat_of w c).phase ≡ true) where
  abbrev t : Seat
  t = seat_of w c

  pub its : (seat_of w c).call.client ≡ c
  its = call_is_own facts script w.history c t (callers.each c first last) offers

  pub next : (seat_of w c).call.seq ≡ (seat_of w c).seq + 1
  next = call_is_next facts script w.history c t (callers.each c first last) offers

  -- the entries of the client have smaller numbers
  pub numbers_smaller : Each (λ e. (e.call.client == c) ≡ true → e.call.seq < (seat_of w c).call.seq) w.history
  numbers_smaller =
      each_map (λ e. (e.call.client == c) ≡ true → e.call.seq ≤ t.seq) (λ e. (e.call.client == c) ≡ true → e.call.seq < t.call.seq) w.history
      (λ e below own. let few = below own in omega (arith, few, next)) (entries_below facts script w.history c t (callers.each c first last))

  abbrev IsBelow : Call → Type 0
  IsBelow k = k.client ≡ t.call.client → k.seq ≤ t.call.seq

  in_calls : (h : List Entry) → Each (λ e. (e.call.client == c) ≡ true → e.call.seq < t.call.seq) h → Each IsBelow (map (λ e. e.call) h)
  in_calls [] all = tt
  in_calls (e ∷ h) all = ((λ own. let few = all.0 (same_test e.call.client c (own ∙ its)) in omega (arith, few)), in_calls h all.1)

  in_seats : Each IsBelow (flat_map offered_by w.seats)
  in_seats = each_offered IsBelow w.seats (λ k below so. at_seat k below so)
    where
      at_seat : (k : ℕ) → k < length w.seats → is_offered (unwrap_or (slice_get w.seats k) no_seat).phase ≡ true → IsBelow (unwrap_or (slice_get w.seats k) no_seat).call
      at_seat k below so own =
          let place : k ≡ k + 1 - 1 = omega arith in
          let there : k + 1 ≤ length w.seats = omega (arith, below) in
          let so_there : is_offered (seat_of w (k + 1)).phase ≡ true = ap (λ n. is_offered (unwrap_or (slice_get w.seats n) no_seat).phase) (sym place) ∙ so in
          let client : (seat_of w (k + 1)).call.client ≡ k + 1 = call_is_own facts script w.history (k + 1) (seat_of w (k + 1)) (callers.each (k + 1) (omega arith) there) so_there in
          let same : k + 1 ≡ c = sym client ∙ ap (λ n. (unwrap_or (slice_get w.seats n) no_seat).call.client) (sym place) ∙ own ∙ its in
          let number : (unwrap_or (slice_get w.seats k) no_seat).call.seq ≡ t.call.seq = ap (λ n. (unwrap_or (slice_get w.seats n) no_seat).call.seq) place ∙ ap (λ n. (seat_of w n).call.seq) same in
          omega (arith, number)

  -- no call that the client made has a greater number
  pub last_made : IsLastCall w.history (unanswered w) (seat_of w c).call
  last_made y made own = elim (Contains-append_cases (map (λ e. e.call) w.history) (unanswered w) y made) [
    | inl old ↦ each_contains IsBelow (map (λ e. e.call) w.history) y (in_calls w.history numbers_smaller) old own
    | inr left ↦ each_contains IsBelow (unanswered w) y (each_append IsBelow (flat_map offered_by w.seats) (map (λ x. x.call) w.withdrawn) in_seats (subst (λ l. Each IsBelow (map (λ x. x.call) l)) (sym none) tt)) left own
  ]

  -- and it was made
  pub is_made : Contains (calls_made w.history (unanswered w)) (seat_of w c).call
  is_made = Contains-append_right (map (λ e. e.call) w.history) (unanswered w) t.call (own_left w.seats c first last (map (λ x. x.call) w.withdrawn) offers)
