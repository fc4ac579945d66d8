-- The phases of seats, of which one has changed.

-- where the phase that a changed seat had is put back, they are those before
use Rattle.std.proofs.Common.{List, [], ap, arith, length, map, refl, slice_get, slice_set, suc, unwrap_or, zero, ℕ, ◌<◌, ◌∷◌, ◌≡◌}
use Rattle.sg_clients.specs.WorldView.{Seat, no_seat}

pub set_back : (seats : List Seat) (at : ℕ) (new : Seat) → at < length seats → slice_set (map (λ s. s.phase) (slice_set seats at new)) at (unwrap_or (slice_get seats at) no_seat).phase ≡ map (λ s. s.phase) seats
set_back [] at new less = absurd (omega (arith, less))
set_back (s ∷ seats) zero new less = refl
set_back (s ∷ seats) (suc at) new less = ap (λ l. s.phase ∷ l) (set_back seats at new (omega (arith, less)))
