-- What holds of each client's seat, where one is set and where some are woken.
use Rattle.std.proofs.Common.{◌≡◌, ◌≢◌, ◌⊎◌, ℕ, ◌-◌, ◌≤◌, List, length, map, refl, sym, ◌∙◌, subst, inl, inr, slice_set}
use Rattle.sg_facts.specs.sg_base.declared.call.Call.{Call}
use Rattle.sg_clients.specs.WorldView.{Seat, seat_in, woken_seat}
use Rattle.sg_clients.specs.declared.phase.Phase.TheVariants.{Asked, Held, Blocked}
use Rattle.sg_clients.proofs.Lines.{length_map, length_set, same_or_other, seat_here, seat_there, seat_woken}
use Rattle.sg_world_laws.proofs.Woken.{woken_is}
use Rattle.std.specs.Prelude.{Bool}
use Rattle.sg_world_laws.specs.Ending.{EachSeat}

-- one is set
pub each_set : (P : ℕ → Seat → Type 0) (seats : List Seat) (c : ℕ) (new : Seat) → 1 ≤ c → c ≤ length seats → P c new
    → ((client : ℕ) → 1 ≤ client → client ≤ length seats → client ≢ c → P client (seat_in seats client)) → EachSeat P (slice_set seats (c - 1) new)
each_set P seats c new first last own others client from to = by (same_or_other client c)
  where
    by : (client ≡ c) ⊎ (client ≢ c) → P client (seat_in (slice_set seats (c - 1) new) client)
    by (inl same) = subst (λ n. P n (seat_in (slice_set seats (c - 1) new) n)) (sym same) (subst (P c) (sym (seat_here seats c new first last)) own)
    by (inr other) = subst (P client) (sym (seat_there seats c client new first from other)) (others client from (subst (λ n. client ≤ n) (length_set seats (c - 1) new) to) other)

-- some are woken
pub each_woken : (P : ℕ → Seat → Type 0) (test : Call → Bool) (seats : List Seat) → ((client : ℕ) → 1 ≤ client → client ≤ length seats → P client (woken_seat test (seat_in seats client)))
    → EachSeat P (map (woken_seat test) seats)
each_woken P test seats all client from to =
    subst (P client) (sym (seat_woken test seats client)) (all client from (subst (λ n. client ≤ n) (length_map (woken_seat test) seats) to))

-- both
pub each_entered : (P : ℕ → Seat → Type 0) (test : Call → Bool) (seats : List Seat) (c : ℕ) (new : Seat) → 1 ≤ c → c ≤ length seats → P c new
    → ((client : ℕ) → 1 ≤ client → client ≤ length seats → client ≢ c → P client (woken_seat test (seat_in seats client))) → EachSeat P (slice_set (map (woken_seat test) seats) (c - 1) new)
each_entered P test seats c new first last own others =
    each_set P (map (woken_seat test) seats) c new first (subst (λ n. c ≤ n) (sym (length_map (woken_seat test) seats)) last) own
    (λ client from to other. subst (P client) (sym (seat_woken test seats client)) (others client from (subst (λ n. client ≤ n) (length_map (woken_seat test) seats) to) other))

pub length_entered : (test : Call → Bool) (seats : List Seat) (c : ℕ) (new : Seat) → length (slice_set (map (woken_seat test) seats) (c - 1) new) ≡ length seats
length_entered test seats c new = length_set (map (woken_seat test) seats) (c - 1) new ∙ length_map (woken_seat test) seats

-- ---- a seat that is asked stays so

-- a seat that is asked goes on to be, and none holds a reply that didn't hold it
pub record Stays (s later : Seat) : Type 0 where
  pub asked : s.phase ≡ Asked → (later.phase ≡ Asked) × (later.call ≡ s.call)
  pub held : later.phase ≡ Held → (s.phase ≡ Held) × (later.boot ≡ s.boot)

pub stays_same : (s : Seat) → Stays s s
stays_same s = record { asked = λ is. (is, refl); held = λ is. (is, refl) }

pub stays_woken : (test : Call → Bool) (s : Seat) → Stays s (woken_seat test s)
stays_woken test s = by (woken_is test s)
  where
    by : (woken_seat test s ≡ s) ⊎ ((s.phase ≡ Blocked) × (woken_seat test s ≡ record s { phase = Asked })) → Stays s (woken_seat test s)
    by (inl same) = subst (Stays s) (sym same) (stays_same s)
    by (inr was) = subst (Stays s) (sym was.1) (record { asked = λ is. (refl, refl); held = λ is. absurd (cc is) })

-- so do all but one client's
abbrev pub OthersStay : List Seat → ℕ → List Seat → Type 0
OthersStay seats c later = EachSeat (λ client s. client ≢ c → Stays (seat_in seats client) s) later

pub others_same : (seats : List Seat) (c : ℕ) → OthersStay seats c seats
others_same seats c client from to other = stays_same (seat_in seats client)

pub others_set : (seats : List Seat) (c : ℕ) (new : Seat) → 1 ≤ c → c ≤ length seats → OthersStay seats c (slice_set seats (c - 1) new)
others_set seats c new first last =
    each_set (λ client s. client ≢ c → Stays (seat_in seats client) s) seats c new first last (λ other. absurd (other refl)) (λ client from to apart other. stays_same (seat_in seats client))

pub others_woken : (test : Call → Bool) (seats : List Seat) (c : ℕ) → OthersStay seats c (map (woken_seat test) seats)
others_woken test seats c = each_woken (λ client s. client ≢ c → Stays (seat_in seats client) s) test seats (λ client from to other. stays_woken test (seat_in seats client))

pub others_entered : (test : Call → Bool) (seats : List Seat) (c : ℕ) (new : Seat) → 1 ≤ c → c ≤ length seats → OthersStay seats c (slice_set (map (woken_seat test) seats) (c - 1) new)
others_entered test seats c new first last =
    each_entered (λ client s. client ≢ c → Stays (seat_in seats client) s) test seats c new first last (λ other. absurd (other refl)) (λ client from to apart other. stays_woken test (seat_in seats client))

-- the seat that was set behind those that were woken
pub here_entered : (test : Call → Bool) (seats : List Seat) (c : ℕ) (new : Seat) → 1 ≤ c → c ≤ length seats → seat_in (slice_set (map (woken_seat test) seats) (c - 1) new) c ≡ new
here_entered test seats c new first last = seat_here (map (woken_seat test) seats) c new first (subst (λ n. c ≤ n) (sym (length_map (woken_seat test) seats)) last)
