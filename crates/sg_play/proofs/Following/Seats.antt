-- What holds of each seat, where one is another then, or those who wait are woken.
use Rattle.std.proofs.Common.{◌≡◌, ◌≢◌, ◌⊎◌, ℕ, ◌-◌, ◌≤◌, Bool, true, false, cond, List, length, map, sym, subst, inl, inr, slice_set}
use Rattle.std.specs.Prelude.{◌&&◌}
use Rattle.sg_facts.specs.sg_base.declared.call.Call.{Call}
use Rattle.sg_facts.specs.Facts.{Facts}
use Rattle.sg_plain.proofs.sg_clients.Lines.{same_or_other, seat_here, seat_there, seat_woken}
use Rattle.sg_plain.specs.sg_clients.WorldView.{Seat, is_blocked_phase, seat_in, woken_seat}
use Rattle.sg_plain.specs.sg_clients.declared.phase.Phase.TheVariants.{Asked, Held, Receipted}
use Rattle.sg_play.specs.Following.Follows.{HoldsSo}

-- a reply that is held is of the first boot
abbrev pub HeldFirst : Seat → Type 0
HeldFirst s = s.phase ≡ Held → s.boot ≡ 1

abbrev pub EachSeat : (Seat → Type 0) → List Seat → Type 0
EachSeat P seats = (client : ℕ) → 1 ≤ client → P (seat_in seats client)

pub each_set : (P : Seat → Type 0) (seats : List Seat) (c : ℕ) (new : Seat) → 1 ≤ c → c ≤ length seats → EachSeat P seats → P new → EachSeat P (slice_set seats (c - 1) new)
each_set P seats c new first last each own client from = by (same_or_other client c)
  where
    by : (client ≡ c) ⊎ (client ≢ c) → P (seat_in (slice_set seats (c - 1) new) client)
    by (inl same) = subst (λ n. P (seat_in (slice_set seats (c - 1) new) n)) (sym same) (subst P (sym (seat_here seats c new first last)) own)
    by (inr other) = subst P (sym (seat_there seats c client new first from other)) (each client from)

pub each_woken : (P : Seat → Type 0) (f : Call → Bool) (seats : List Seat) → ((s : Seat) → P s → P (record s { phase = Asked })) → EachSeat P seats → EachSeat P (map (woken_seat f) seats)
each_woken P f seats asked each client from = subst P (sym (seat_woken f seats client)) (by (is_blocked_phase (seat_in seats client).phase && f (seat_in seats client).call))
  where
    by : (b : Bool) → P (cond b (record (seat_in seats client) { phase = Asked }) (seat_in seats client))
    by true = asked (seat_in seats client) (each client from)
    by false = each client from

-- ---- what seats hold

pub asked_holds : (facts : Facts) (s : Seat) → HoldsSo facts s → HoldsSo facts (record s { phase = Asked })
asked_holds facts s is = record { hidden = λ held. absurd (cc held); receipt = λ receipted. absurd (cc receipted) }

pub asked_first : (s : Seat) → HeldFirst s → HeldFirst (record s { phase = Asked })
asked_first s is = λ held. absurd (cc held)

-- a seat in a phase that neither holds a reply nor has a receipt
pub plain_holds : (facts : Facts) (s : Seat) → s.phase ≢ Held → s.phase ≢ Receipted → HoldsSo facts s
plain_holds facts s not_held not_receipted = record { hidden = λ held. absurd (not_held held); receipt = λ receipted. absurd (not_receipted receipted) }
