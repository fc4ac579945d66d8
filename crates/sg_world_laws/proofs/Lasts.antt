-- No call that a client made has a greater number than the one that it has under way.
use Rattle.std.proofs.Common.{Bool, List, [], ◌∷◌, ◌++◌, true, false, map, length, flat_map, refl, sym, ◌∙◌, ap, subst, inl, inr, arith, append_assoc, ◌≡◌, ◌≢◌, ◌≤◌, ◌+◌, ℕ, Option, None, Some, if◌then◌else◌}
use Rattle.std.proofs.lemmas.List.Elements.{Contains-append_cases}
use Rattle.std.specs.List.{Contains}
use Rattle.sg_facts.specs.sg_base.Lists.{Each}
use Rattle.sg_facts.specs.sg_base.declared.call.Call.{Call}
use Rattle.sg_facts.specs.Object.{Object}
use Rattle.sg_facts.specs.declared.entry.Entry.{Entry}
use Rattle.sg_recovery_laws.specs.sg_hist.Clients.{calls_of}
use Rattle.sg_recovery_laws.specs.sg_hist.Growing.{IsLastCall}
use Rattle.sg_recovery_laws.specs.Objects.Waiting.{NoneBy}
use Rattle.sg_recovery_laws.proofs.Lists.{each_append, each_contains, each_map}
use Rattle.sg_clients.specs.WorldView.{Seat, WorldView, held_in, held_replies, is_held_in, is_offered, offered_by, unanswered}
use Rattle.sg_clients.specs.declared.phase.Phase.{Phase}
use Rattle.sg_clients.specs.declared.phase.Phase.TheVariants.{Asked, Blocked, Held, Idle, Left, Receipted}
use Rattle.sg_clients.specs.declared.withdrawn.Withdrawn.{Withdrawn}
use Rattle.sg_world_laws.proofs.Entered.{numbers_below}
use Rattle.sg_world_laws.proofs.Seating.{gone_is, offered_at, offered_other, one_is, seat_is, seated_split}
use Rattle.sg_world_laws.specs.Keeping.{AreDrawn}
use Rattle.sg_world_laws.specs.Seats.{AreGone, AreSeated, HaveSeats, IsSeated}
use Rattle.sg_world_laws.specs.Setting.{Setting}

-- ---- of calls that aren't answered

module _ (z : Setting) (h : List Entry) (withdrawn : List Withdrawn) (boots : ℕ) (front back : List Seat) (s : Seat) (have : HaveSeats z h withdrawn boots (front ++ s ∷ back)) (offers : is_offered s.phase ≡ true) where
  seated : IsSeated z h (length front + 1) s
  seated = seat_is z h withdrawn boots front back s have

  gone : (l : List Withdrawn) → AreGone l (length front + 1) s → (x : Call) → Contains (map (λ y. y.call) l) x → x.client ≡ length front + 1 → x.seq ≤ s.seq + 1
  gone l are x has own = each_contains (λ (y : Call). y.client ≡ length front + 1 → y.seq ≤ s.seq + 1) (map (λ y. y.call) l) x (each_call l are) has own
    where
      each_call : (m : List Withdrawn) → AreGone m (length front + 1) s → Each (λ (y : Call). y.client ≡ length front + 1 → y.seq ≤ s.seq + 1) (map (λ y. y.call) m)
      each_call [] are = tt
      each_call (y ∷ m) are = (are.0, each_call m are.1)

  parts : AreSeated z h withdrawn 1 front × AreSeated z h withdrawn (1 + length front) (s ∷ back)
  parts = seated_split z h withdrawn 1 front (s ∷ back) have.each

  pub last_offered : (x : Call) → Contains (flat_map offered_by (front ++ s ∷ back) ++ map (λ y. y.call) withdrawn) x → x.client ≡ s.call.client → x.seq ≤ s.call.seq
  last_offered x has own = elim (Contains-append_cases (flat_map offered_by (front ++ s ∷ back)) (map (λ y. y.call) withdrawn) x has) [
    | inl offered ↦ elim (Contains-append_cases (flat_map offered_by front) (offered_by s ++ flat_map offered_by back) x (subst (λ l. Contains l x) (offered_at front back s) offered)) [
      | inl before ↦ absurd (offered_other z h withdrawn 1 (length front + 1) front parts.0 (inr (omega arith)) x before (own ∙ seated.its offers))
      | inr rest ↦ elim (Contains-append_cases (offered_by s) (flat_map offered_by back) x rest) [
        | inl mine ↦ let one : x ≡ s.call = one_is s.call x (subst (λ q. Contains (if q then s.call ∷ [] else []) x) offers mine) in let same : x.seq ≡ s.call.seq = ap (λ y. y.seq) one in omega (arith, same)
        | inr after ↦ absurd (offered_other z h withdrawn ((1 + length front) + 1) (length front + 1) back parts.1.2 (inl (omega arith)) x after (own ∙ seated.its offers))
      ]
    ]
    | inr out ↦ let few = gone withdrawn (gone_is z h withdrawn boots front back s have) x out (own ∙ seated.its offers) in let next = seated.next offers in omega (arith, few, next)
  ]

-- the call of a client that holds nothing
pub own_last : (z : Setting) (w : WorldView) (boots : ℕ) → HaveSeats z w.history w.withdrawn boots w.seats → (front back : List Seat) (s : Seat) → w.seats ≡ front ++ s ∷ back → is_offered s.phase ≡ true
    → (es : List Entry) → NoneBy s.call.client es → IsLastCall (w.history ++ es) (unanswered w) s.call
own_last z w boots have front back s is offers es none y made own = elim (Contains-append_cases (map (λ e. e.call) (w.history ++ es)) (unanswered w) y made) [
  | inl old ↦ each_contains (λ (c : Call). c.client ≡ s.call.client → c.seq ≤ s.call.seq) (map (λ e. e.call) (w.history ++ es)) y
      (each_call (w.history ++ es) (each_append below w.history es in_history (each_map (λ e. e.call.client ≢ s.call.client) below es (λ e other same. absurd (other same)) none))) old own
  | inr left ↦ last_offered z w.history w.withdrawn boots front back s there offers y (subst (λ l. Contains (flat_map offered_by l ++ map (λ e. e.call) w.withdrawn) y) is left) own
]
  where
    there : HaveSeats z w.history w.withdrawn boots (front ++ s ∷ back)
    there = subst (HaveSeats z w.history w.withdrawn boots) is have

    seat : IsSeated z w.history (length front + 1) s
    seat = seat_is z w.history w.withdrawn boots front back s there

    below : Entry → Type 0
    below e = e.call.client ≡ s.call.client → e.call.seq ≤ s.call.seq

    each_call : (l : List Entry) → Each below l → Each (λ (c : Call). c.client ≡ s.call.client → c.seq ≤ s.call.seq) (map (λ e. e.call) l)
    each_call [] all = tt
    each_call (e ∷ l) all = (all.0, each_call l all.1)

    in_history : Each below w.history
    in_history = each_map (λ e. e.call.client ≡ length front + 1 → e.call.seq ≤ length (calls_of w.history (length front + 1))) below w.history
        (λ e few same. let some = few (same ∙ seat.its offers) in let count = seat.count in let next = seat.next offers in omega (arith, some, count, next)) (numbers_below [] w.history (length front + 1) there.numbered)

-- ---- of held replies

-- a reply that is held, with the seat that holds it
record IsHeldAt (boot : ℕ) (seats : List Seat) (x : Entry) : Type 0 where
  front : List Seat
  seat : Seat
  back : List Seat
  is : seats ≡ front ++ seat ∷ back
  held : is_held_in boot seat ≡ true
  entry : x ≡ record { call = seat.call; reply = seat.reply }

each_held : (boot : ℕ) (front seats : List Seat) → Each (IsHeldAt boot (front ++ seats)) (held_in boot seats)
each_held boot front [] = tt
each_held boot front (s ∷ seats) =
    at (is_held_in boot s) refl (subst (λ l. Each (IsHeldAt boot l) (held_in boot seats)) (append_assoc front (s ∷ []) seats) (each_held boot (front ++ s ∷ []) seats))
  where
    at : (q : Bool) → is_held_in boot s ≡ q → Each (IsHeldAt boot (front ++ s ∷ seats)) (held_in boot seats)
        → Each (IsHeldAt boot (front ++ s ∷ seats)) (if q then record { call = s.call; reply = s.reply } ∷ held_in boot seats else held_in boot seats)
    at true is rest = (record { front = front; seat = s; back = seats; is = refl; held = is; entry = refl }, rest)
    at false is rest = rest

module _ (z : Setting) (w : WorldView) (boots : ℕ) (have : HaveSeats z w.history w.withdrawn boots w.seats) (es : List Entry) (drawn : AreDrawn (held_in boots w.seats) es) where
  at : (x : Entry) → Contains (held_in boots w.seats) x → IsHeldAt boots w.seats x
  at x has = each_contains (IsHeldAt boots w.seats) (held_in boots w.seats) x (each_held boots [] w.seats) has

  have_at : (x : Entry) (a : IsHeldAt boots w.seats x) → HaveSeats z w.history w.withdrawn boots (a.front ++ a.seat ∷ a.back)
  have_at x a = subst (HaveSeats z w.history w.withdrawn boots) a.is have

  seated_at : (x : Entry) (a : IsHeldAt boots w.seats x) → IsSeated z w.history (length a.front + 1) a.seat
  seated_at x a = seat_is z w.history w.withdrawn boots a.front a.back a.seat (have_at x a)

  offers_held : (boot : ℕ) (s : Seat) → is_held_in boot s ≡ true → is_offered s.phase ≡ true
  offers_held boot s is = by s.phase is
    where
      by : (p : Phase) → is_held_in boot (record s { phase = p }) ≡ true → is_offered p ≡ true
      by Held is = refl
      by Asked is = refl
      by Blocked is = refl
      by Idle is = absurd (cc is)
      by Receipted is = absurd (cc is)
      by Left is = absurd (cc is)

  -- no call that the client of a held reply made has a greater number
  pub held_last : (x : Entry) → Contains (held_in boots w.seats) x → IsLastCall (w.history ++ es) (unanswered w) x.call
  held_last x has y made own = elim (Contains-append_cases (map (λ e. e.call) (w.history ++ es)) (unanswered w) y made) [
    | inl old ↦ each_contains (λ (c : Call). c.client ≡ x.call.client → c.seq ≤ x.call.seq) (map (λ e. e.call) (w.history ++ es)) y (each_call (w.history ++ es) (each_append below w.history es in_history in_es)) old own
    | inr left ↦
        let one : y.seq ≤ a.seat.call.seq = last_offered z w.history w.withdrawn boots a.front a.back a.seat (have_at x a) offers y (subst (λ l. Contains (flat_map offered_by l ++ map (λ e. e.call) w.withdrawn) y) a.is left) (own ∙ ap (λ e. e.call.client) a.entry) in
        let same : x.call.seq ≡ a.seat.call.seq = ap (λ e. e.call.seq) a.entry in omega (arith, one, same)
  ]
    where
      a : IsHeldAt boots w.seats x
      a = at x has

      offers : is_offered a.seat.phase ≡ true
      offers = offers_held boots a.seat a.held

      its : x.call.client ≡ length a.front + 1
      its = ap (λ e. e.call.client) a.entry ∙ (seated_at x a).its offers

      number : x.call.seq ≡ length (calls_of w.history (length a.front + 1)) + 1
      number = ap (λ e. e.call.seq) a.entry ∙ (seated_at x a).next offers ∙ ap (λ n. n + 1) (seated_at x a).count

      below : Entry → Type 0
      below e = e.call.client ≡ x.call.client → e.call.seq ≤ x.call.seq

      each_call : (l : List Entry) → Each below l → Each (λ (c : Call). c.client ≡ x.call.client → c.seq ≤ x.call.seq) (map (λ e. e.call) l)
      each_call [] all = tt
      each_call (e ∷ l) all = (all.0, each_call l all.1)

      in_history : Each below w.history
      in_history = each_map (λ e. e.call.client ≡ length a.front + 1 → e.call.seq ≤ length (calls_of w.history (length a.front + 1))) below w.history
          (λ e few same. let some = few (same ∙ its) in omega (arith, some, number)) (numbers_below [] w.history (length a.front + 1) have.numbered)

      in_es : Each below es
      in_es = each_map (Contains (held_in boots w.seats)) below es held drawn.each
        where
          held : (e : Entry) → Contains (held_in boots w.seats) e → below e
          held e there same =
              let d : IsHeldAt boots w.seats e = at e there in
              let gives : is_offered d.seat.phase ≡ true = offers_held boots d.seat d.held in
              let client : length a.front + 1 ≡ length d.front + 1 = sym its ∙ sym same ∙ ap (λ y. y.call.client) d.entry ∙ (seated_at e d).its gives in
              let its_number : e.call.seq ≡ length (calls_of w.history (length d.front + 1)) + 1 = ap (λ y. y.call.seq) d.entry ∙ (seated_at e d).next gives ∙ ap (λ n. n + 1) (seated_at e d).count in
              let same_number : length (calls_of w.history (length d.front + 1)) ≡ length (calls_of w.history (length a.front + 1)) = ap (λ n. length (calls_of w.history n)) (sym client) in
              omega (arith, number, its_number, same_number)

  pub held_lasts : Each (λ x. IsLastCall (w.history ++ es) (unanswered w) x.call) es
  held_lasts = each_map (Contains (held_in boots w.seats)) (λ x. IsLastCall (w.history ++ es) (unanswered w) x.call) es held_last drawn.each

-- what is drawn from what a world holds is drawn from what its seats hold
pub held_drawn : (w : WorldView) (r : Option Object) (es : List Entry) → AreDrawn (held_replies (record w { running = r })) es → AreDrawn (held_in (length w.run.boots) w.seats) es
held_drawn w None es drawn = record {
  each = each_map (Contains []) (Contains (held_in (length w.run.boots) w.seats)) es (λ x has. absurd (let below = has.1 in omega (arith, below))) drawn.each;
  apart = drawn.apart;
  few = let few = drawn.few in omega (arith, few);
}
held_drawn w (Some v) es drawn = drawn
