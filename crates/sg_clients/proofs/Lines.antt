-- The seats of clients, where one is set and where some are woken.
use Rattle.std.proofs.Common.{◌≡◌, ◌≢◌, ◌⊎◌, ℕ, zero, ◌-◌, ◌≤◌, Bool, true, false, List, [], ◌∷◌, length, map, refl, sym, ◌∙◌, ap, inl, inr, arith, slice_set, suc, get_or-set_same, get_or-set_other}
use Rattle.std.specs.Prelude.{◌==◌, slice_get, unwrap_or}
use Rattle.std.proofs.lemmas.Option.{unwrap_or-slice_get}
use Rattle.sg_facts.specs.sg_base.declared.call.Call.{Call}
use Rattle.sg_clients.specs.WorldView.{Seat, no_seat, seat_in, woken_seat}
use Rattle.std.proofs.lemmas.Bool.Decides.{nat_tests}

-- ---- seats by their clients

-- one number or another
pub same_or_other : (m n : ℕ) → (m ≡ n) ⊎ (m ≢ n)
same_or_other m n = by (m == n) refl
  where
    by : (b : Bool) → (m == n) ≡ b → (m ≡ n) ⊎ (m ≢ n)
    by true is = inl (grind (arith, nat_tests))
    by false is = inr (grind (arith, nat_tests))

pub seat_here : (seats : List Seat) (c : ℕ) (new : Seat) → 1 ≤ c → c ≤ length seats → seat_in (slice_set seats (c - 1) new) c ≡ new
seat_here seats c new first last = unwrap_or-slice_get (slice_set seats (c - 1) new) (c - 1) no_seat ∙ get_or-set_same seats (c - 1) new no_seat (omega (arith, first, last))

pub seat_there : (seats : List Seat) (c client : ℕ) (new : Seat) → 1 ≤ c → 1 ≤ client → client ≢ c → seat_in (slice_set seats (c - 1) new) client ≡ seat_in seats client
seat_there seats c client new first from other =
    unwrap_or-slice_get (slice_set seats (c - 1) new) (client - 1) no_seat
    ∙ get_or-set_other seats (c - 1) (client - 1) new no_seat (λ same. other (omega (arith, first, from, same)))
    ∙ sym (unwrap_or-slice_get seats (client - 1) no_seat)

pub length_set : (seats : List Seat) (at : ℕ) (new : Seat) → length (slice_set seats at new) ≡ length seats
length_set [] at new = refl
length_set (s ∷ seats) zero new = refl
length_set (s ∷ seats) (suc at) new = ap suc (length_set seats at new)

-- ---- seats that are woken

pub length_map : (f : Seat → Seat) (seats : List Seat) → length (map f seats) ≡ length seats
length_map f [] = refl
length_map f (s ∷ seats) = ap suc (length_map f seats)

woken_at : (f : Call → Bool) (seats : List Seat) (at : ℕ) → unwrap_or (slice_get (map (woken_seat f) seats) at) no_seat ≡ woken_seat f (unwrap_or (slice_get seats at) no_seat)
woken_at f [] at = refl
woken_at f (s ∷ seats) zero = refl
woken_at f (s ∷ seats) (suc at) = woken_at f seats at

pub seat_woken : (f : Call → Bool) (seats : List Seat) (client : ℕ) → seat_in (map (woken_seat f) seats) client ≡ woken_seat f (seat_in seats client)
seat_woken f seats client = woken_at f seats (client - 1)
