-- Seats by their clients, of which one has changed.
use Rattle.std.proofs.Common.{List, [], ◌∷◌, ap, arith, get_or, length, map, refl, slice_set, suc, sym, zero, ℕ, ◌-◌, ◌<◌, ◌≤◌, ◌≡◌, ◌∙◌}
use Rattle.std.specs.Prelude.{slice_index_or}
use Rattle.std.proofs.lemmas.List.{get_or_default, set-get_or}
use Rattle.std.proofs.lemmas.Option.{unwrap_or-slice_get}
use Rattle.sg_clients.specs.WorldView.{Seat, no_seat, seat_in}

-- a client's seat is read at a place
pub record Reads (inside seats : List Seat) (at client : ℕ) (x : Seat) : Type 0 where
  pub same : inside ≡ seats
  pub is : at ≡ client
  pub first : 1 ≤ client
  pub last : client ≤ length seats
  pub read : x ≡ slice_index_or inside (at - 1) x

-- it is the client's
pub is_read : {inside seats : List Seat} {at client : ℕ} {x : Seat} → Reads inside seats at client x → x ≡ seat_in seats client
is_read {inside} {seats} {at} {client} {x} r =
    let there : at - 1 < length inside = omega (arith, r.first, r.last, r.is, ap length r.same) in
    r.read ∙ get_or_default inside (at - 1) x no_seat there ∙ sym (unwrap_or-slice_get inside (at - 1) no_seat) ∙ ap (λ n. seat_in inside n) r.is ∙ ap (λ l. seat_in l client) r.same

-- and is written back, changed
pub is_changed : {inside seats : List Seat} {at client : ℕ} {x : Seat} → Reads inside seats at client x → (change : Seat → Seat) (new : Seat) → new ≡ change x
    → slice_set inside (at - 1) new ≡ slice_set seats (client - 1) (change (seat_in seats client))
is_changed {inside} {seats} {at} {client} {x} r change new changed =
    ap (λ l. slice_set l (at - 1) new) r.same ∙ ap (λ n. slice_set seats (n - 1) new) r.is ∙ ap (slice_set seats (client - 1)) (changed ∙ ap change (is_read r))

-- and is written back as it was
pub set_again : (seats : List Seat) (client : ℕ) → slice_set seats (client - 1) (seat_in seats client) ≡ seats
set_again seats client = ap (slice_set seats (client - 1)) (unwrap_or-slice_get seats (client - 1) no_seat) ∙ set-get_or seats (client - 1) no_seat

-- a change that a function does not see
pub set_unseen : (f : Seat → Seat) (seats : List Seat) (at : ℕ) (new : Seat) → f new ≡ f (get_or seats at no_seat) → map f (slice_set seats at new) ≡ map f seats
set_unseen f [] at new is = refl
set_unseen f (s ∷ seats) zero new is = ap (λ x. x ∷ map f seats) is
set_unseen f (s ∷ seats) (suc at) new is = ap (λ l. f s ∷ l) (set_unseen f seats at new is)

-- a function that changes no seat
pub all_kept : (f : Seat → Seat) (seats : List Seat) → ((at : ℕ) → at < length seats → f (get_or seats at no_seat) ≡ get_or seats at no_seat) → seats ≡ map f seats
all_kept f [] kept = refl
all_kept f (s ∷ seats) kept =
    ap (λ x. x ∷ seats) (sym (kept zero (omega arith))) ∙ ap (λ l. f s ∷ l) (all_kept f seats (λ at less. kept (suc at) (omega (arith, less))))
