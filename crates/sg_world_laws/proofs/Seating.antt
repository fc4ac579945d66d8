-- The seats of a world, with one of them changed: what is held, what isn't answered, and that all seats are as their phases say.

-- ---- lists
use Rattle.std.proofs.Common.{Bool, List, Some, [], ap, arith, false, flat_map, if◌then◌else◌, inl, inr, length, length-append, map, refl, slice_get, slice_set, subst, suc, sym, true, zero, ℕ, ◌++◌, ◌+◌, ◌<◌, ◌∙◌, ◌∷◌, ◌≡◌, ◌≢◌, ◌≤◌, ◌⊎◌, slice_index_or}
use Rattle.std.proofs.lemmas.Grind.{flat_map-append}
use Rattle.std.proofs.lemmas.List.Elements.{Contains-append_cases, Contains-append_left, Contains-append_right}
use Rattle.std.specs.List.{Contains}
use Rattle.sg_facts.specs.sg_base.declared.call.Call.{Call}
use Rattle.sg_facts.proofs.RowLists.{more}
use Rattle.sg_facts.specs.Limits.{last_client}
use Rattle.sg_facts.specs.declared.entry.Entry.{Entry}
use Rattle.sg_recovery_laws.specs.sg_hist.Reading.{items_after}
use Rattle.sg_recovery_laws.proofs.Lists.{each_append, each_split}
use Rattle.sg_clients.specs.WorldView.{Seat, held_in, is_held_in, is_offered, offered, offered_by, woken_seat}
use Rattle.sg_clients.specs.declared.withdrawn.Withdrawn.{Withdrawn}
use Rattle.sg_recovery_laws.proofs.sg_track.Ascending.{later}
use Rattle.sg_facts.proofs.Replaying.Apart.{apart}
use Rattle.sg_world_laws.specs.Seats.{AreGone, AreSeated, HaveSeats, IsSeated, all_seqs}
use Rattle.sg_world_laws.specs.Setting.{Setting}

pub get_at : (front back : List Seat) (s : Seat) → slice_get (front ++ s ∷ back) (length front) ≡ Some s
get_at [] back s = refl
get_at (x ∷ front) back s = get_at front back s

-- a seat stands in a list, which is told by what is before and after it
pub record HasSeat (seats : List Seat) (i : ℕ) (s : Seat) : Type 0 where
  pub front : List Seat
  pub back : List Seat
  pub is : seats ≡ front ++ s ∷ back
  pub place : length front ≡ i
  pub set : (new : Seat) → slice_set seats i new ≡ front ++ new ∷ back

pub has_seat : (seats : List Seat) (i : ℕ) (s : Seat) → slice_get seats i ≡ Some s → HasSeat seats i s
has_seat [] i s is = absurd (cc is)
has_seat (x ∷ seats) zero s is = let one : x ≡ s = cc is in record { front = []; back = seats; is = ap (λ y. y ∷ seats) one; place = refl; set = λ new. refl }
has_seat (x ∷ seats) (suc i) s is =
    let rest = has_seat seats i s is in
    record { front = x ∷ rest.front; back = rest.back; is = ap (λ l. x ∷ l) rest.is; place = ap suc rest.place; set = λ new. ap (λ l. x ∷ l) (rest.set new) }

-- where all are woken, the seat stands at the same place
pub woken_at : (test : Call → Bool) (front back : List Seat) (s : Seat) → map (woken_seat test) (front ++ s ∷ back) ≡ map (woken_seat test) front ++ woken_seat test s ∷ map (woken_seat test) back
woken_at test [] back s = refl
woken_at test (x ∷ front) back s = ap (λ l. woken_seat test x ∷ l) (woken_at test front back s)

-- ---- what is held

-- the reply that a seat holds in a boot, if it holds one
abbrev pub held_one : ℕ → Seat → List Entry
held_one boot s = if is_held_in boot s then record { call = s.call; reply = s.reply } ∷ [] else []

pub held_at : (boot : ℕ) (front back : List Seat) (s : Seat) → held_in boot (front ++ s ∷ back) ≡ held_in boot front ++ (held_one boot s ++ held_in boot back)
held_at boot [] back s = by (is_held_in boot s)
  where
    by : (q : Bool) → (if q then record { call = s.call; reply = s.reply } ∷ held_in boot back else held_in boot back) ≡ (if q then record { call = s.call; reply = s.reply } ∷ [] else []) ++ held_in boot back
    by true = refl
    by false = refl
held_at boot (x ∷ front) back s = by (is_held_in boot x) (held_at boot front back s)
  where
    by : (q : Bool) → held_in boot (front ++ s ∷ back) ≡ held_in boot front ++ (held_one boot s ++ held_in boot back)
        → (if q then record { call = x.call; reply = x.reply } ∷ held_in boot (front ++ s ∷ back) else held_in boot (front ++ s ∷ back))
        ≡ (if q then record { call = x.call; reply = x.reply } ∷ held_in boot front else held_in boot front) ++ (held_one boot s ++ held_in boot back)
    by true rest = ap (λ l. record { call = x.call; reply = x.reply } ∷ l) rest
    by false rest = rest

-- ---- what isn't answered

pub offered_at : (front back : List Seat) (s : Seat) → flat_map offered_by (front ++ s ∷ back) ≡ flat_map offered_by front ++ (offered_by s ++ flat_map offered_by back)
offered_at front back s = flat_map-append offered_by front (s ∷ back)

-- a call that isn't answered is the seat's own, or is still among them when the seat has changed
pub still_offered : (front back : List Seat) (s new : Seat) (gone more : List Call) (x : Call) → ((y : Call) → Contains gone y → Contains more y) → Contains (flat_map offered_by (front ++ s ∷ back) ++ gone) x
    → Contains (offered_by s) x ⊎ Contains (flat_map offered_by (front ++ new ∷ back) ++ more) x
still_offered front back s new gone more x kept has = elim (Contains-append_cases (flat_map offered_by (front ++ s ∷ back)) gone x has) [
  | inl offered ↦ elim (Contains-append_cases (flat_map offered_by front) (offered_by s ++ flat_map offered_by back) x (subst (λ l. Contains l x) (offered_at front back s) offered)) [
    | inl before ↦ inr (now (Contains-append_left (flat_map offered_by front) (offered_by new ++ flat_map offered_by back) x before))
    | inr rest ↦ elim (Contains-append_cases (offered_by s) (flat_map offered_by back) x rest) [
      | inl own ↦ inl own
      | inr items_after ↦ inr (now (Contains-append_right (flat_map offered_by front) (offered_by new ++ flat_map offered_by back) x (Contains-append_right (offered_by new) (flat_map offered_by back) x items_after)))
    ]
  ]
  | inr was ↦ inr (Contains-append_right (flat_map offered_by (front ++ new ∷ back)) more x (kept x was))
]
  where
    now : Contains (flat_map offered_by front ++ (offered_by new ++ flat_map offered_by back)) x → Contains (flat_map offered_by (front ++ new ∷ back) ++ more) x
    now c = Contains-append_left (flat_map offered_by (front ++ new ∷ back)) more x (subst (λ l. Contains l x) (sym (offered_at front back new)) c)

-- and its own call is among them where it offers it
pub own_offered : (front back : List Seat) (s : Seat) (gone : List Call) → is_offered s.phase ≡ true → Contains (flat_map offered_by (front ++ s ∷ back) ++ gone) s.call
own_offered front back s gone offers =
    Contains-append_left (flat_map offered_by (front ++ s ∷ back)) gone s.call
    (subst (λ l. Contains l s.call) (sym (offered_at front back s))
    (Contains-append_right (flat_map offered_by front) (offered_by s ++ flat_map offered_by back) s.call (Contains-append_left (offered_by s) (flat_map offered_by back) s.call (subst (λ q. Contains (if q then s.call ∷ [] else []) s.call) (sym offers) (0, omega arith, refl)))))

pub one_is : (x y : Call) → Contains (x ∷ []) y → y ≡ x
one_is x y has = at has.0 has.1 has.2
  where
    at : (n : ℕ) → n < length (x ∷ []) → slice_index_or (x ∷ []) n y ≡ y → y ≡ x
    at zero lt is = sym is
    at (suc n) lt is = absurd (omega (arith, lt))

-- the calls of the other seats are other clients'
pub offered_other : (z : Setting) (history : List Entry) (withdrawn : List Withdrawn) (client c : ℕ) (seats : List Seat) → AreSeated z history withdrawn client seats → (c < client) ⊎ (client + length seats ≤ c)
    → (x : Call) → Contains (flat_map offered_by seats) x → x.client ≢ c
offered_other z history withdrawn client c [] all out x has same = absurd (omega (arith, has.1))
offered_other z history withdrawn client c (s ∷ seats) all out x has same = elim (Contains-append_cases (offered_by s) (flat_map offered_by seats) x has) [
  | inl own ↦ at (is_offered s.phase) refl own
  | inr rest ↦ offered_other z history withdrawn (client + 1) c seats all.2 (further out) x rest same
]
  where
    further : (c < client) ⊎ (client + length (s ∷ seats) ≤ c) → (c < client + 1) ⊎ ((client + 1) + length seats ≤ c)
    further (inl less) = inl (omega (arith, less))
    further (inr more) = inr (omega (arith, more))

    isn't : (c < client) ⊎ (client + length (s ∷ seats) ≤ c) → client ≡ c → ⊥
    isn't (inl less) one = omega (arith, less, one)
    isn't (inr more) one = omega (arith, more, one)

    at : (q : Bool) → is_offered s.phase ≡ q → Contains (if q then s.call ∷ [] else []) x → ⊥
    at false offers none = absurd (omega (arith, none.1))
    at true offers one = let is : x ≡ s.call = one_is s.call x one in isn't out (sym (all.0.its offers) ∙ ap (λ y. y.client) (sym is) ∙ same)

-- ---- all seats

pub seated_split : (z : Setting) (history : List Entry) (withdrawn : List Withdrawn) (client : ℕ) (xs ys : List Seat) → AreSeated z history withdrawn client (xs ++ ys)
    → AreSeated z history withdrawn client xs × AreSeated z history withdrawn (client + length xs) ys
seated_split z history withdrawn client [] ys all = (tt, subst (λ n. AreSeated z history withdrawn n ys) (let same : client ≡ client + 0 = omega arith in same) all)
seated_split z history withdrawn client (x ∷ xs) ys all =
    let rest = seated_split z history withdrawn (client + 1) xs ys all.2 in
    ((all.0, all.1, rest.0), subst (λ n. AreSeated z history withdrawn n ys) (let same : (client + 1) + length xs ≡ client + suc (length xs) = omega arith in same) rest.1)

pub seated_append : (z : Setting) (history : List Entry) (withdrawn : List Withdrawn) (client : ℕ) (xs ys : List Seat) → AreSeated z history withdrawn client xs → AreSeated z history withdrawn (client + length xs) ys
    → AreSeated z history withdrawn client (xs ++ ys)
seated_append z history withdrawn client [] ys front back = subst (λ n. AreSeated z history withdrawn n ys) (let same : client + 0 ≡ client = omega arith in same) back
seated_append z history withdrawn client (x ∷ xs) ys front back =
    (front.0, front.1, seated_append z history withdrawn (client + 1) xs ys front.2 (subst (λ n. AreSeated z history withdrawn n ys) (let same : client + suc (length xs) ≡ (client + 1) + length xs = omega arith in same) back))

pub seqs_at : (front back : List Seat) (s : Seat) → all_seqs (front ++ s ∷ back) ≡ all_seqs front + (s.seq + all_seqs back)
seqs_at [] back s = omega arith
seqs_at (x ∷ front) back s = let rest = seqs_at front back s in omega (arith, rest)

pub length_at : (front back : List Seat) (s : Seat) → length (front ++ s ∷ back) ≡ length front + suc (length back)
length_at front back s = length-append front (s ∷ back)

-- one seat changed, at the same history
module _ (z : Setting) (history : List Entry) (withdrawn : List Withdrawn) (boots : ℕ) (front back : List Seat) (s : Seat) (have : HaveSeats z history withdrawn boots (front ++ s ∷ back)) where
  pub seat_is : IsSeated z history (length front + 1) s
  seat_is = subst (λ n. IsSeated z history n s) (let same : 1 + length front ≡ length front + 1 = omega arith in same) (seated_split z history withdrawn 1 front (s ∷ back) have.each).1.0

  pub gone_is : AreGone withdrawn (length front + 1) s
  gone_is = subst (λ n. AreGone withdrawn n s) (let same : 1 + length front ≡ length front + 1 = omega arith in same) (seated_split z history withdrawn 1 front (s ∷ back) have.each).1.1

  -- the client is one that there is
  pub client_last : length front + 1 ≤ last_client
  client_last = let n = length_at front back s in let few = have.few in omega (arith, n, few)

  pub seats_set : (later : List Withdrawn) (new : Seat) → ((client : ℕ) (x : Seat) → client ≢ length front + 1 → AreGone withdrawn client x → AreGone later client x) → IsSeated z history (length front + 1) new → AreGone later (length front + 1) new
      → new.seq ≡ s.seq → new.boot ≤ boots → HaveSeats z history later boots (front ++ new ∷ back)
  seats_set later new others is gone seq boot =
      let parts = seated_split z history withdrawn 1 front (s ∷ back) have.each in
      let b = each_split (λ x. x.boot ≤ boots) front (s ∷ back) have.boots_few in
      record {
        each = seated_append z history later 1 front (new ∷ back) (moved 1 front (λ k less. omega (arith, less)) parts.0)
            (subst (λ n. IsSeated z history n new) at_it is, subst (λ n. AreGone later n new) at_it gone, moved ((1 + length front) + 1) back (λ k less. omega (arith, less)) parts.1.2);
        numbered = have.numbered;
        total = let one = seqs_at front back s in let two = seqs_at front back new in let total = have.total in omega (arith, one, two, total, seq);
        few = let one = length_at front back s in let two = length_at front back new in let few = have.few in omega (arith, one, two, few);
        boots_few = each_append (λ x. x.boot ≤ boots) front (new ∷ back) b.0 (boot, b.1.1);
      }
    where
      at_it : length front + 1 ≡ 1 + length front
      at_it = omega arith

      moved : (client : ℕ) (xs : List Seat) → ((k : ℕ) → k < length xs → client + k ≢ length front + 1) → AreSeated z history withdrawn client xs → AreSeated z history later client xs
      moved client [] apart all = tt
      moved client (x ∷ xs) apart all =
          (all.0, others client x (λ same. apart 0 (omega arith) (let one : client + 0 ≡ length front + 1 = omega (arith, same) in one)) all.1, moved (client + 1) xs (λ k less same. apart (suc k) (omega (arith, less)) (omega (arith, same))) all.2)
