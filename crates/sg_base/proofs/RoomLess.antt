-- The room after a record more.
use Rattle.std.proofs.Common.{◌≡◌, ℕ, ◌+◌, ◌/◌, ◌≤◌, arith}
use Rattle.sg_base.specs.Inside.Rooms.{room_of, spare_of}

-- a list that grew by so many elements has so much less to spare
pub spare_less : (len capacity len' capacity' more most : ℕ) → len' ≡ len + more → capacity ≤ capacity' → more ≤ most
    → spare_of len capacity ≤ spare_of len' capacity' + most
spare_less len capacity len' capacity' more most many up few = omega arith

quotient_less : (words less : ℕ) → words ≤ less + 11 → words / 11 ≤ less / 11 + 1
quotient_less words less few = omega arith

-- a record takes the room of one
pub room_less : (heads words whole heads' words' whole' : ℕ) → heads ≤ heads' + 1 → words ≤ words' + 11 → whole ≤ whole' + 1
    → room_of heads words whole ≤ room_of heads' words' whole' + 1
room_less heads words whole heads' words' whole' h w o = omega (arith, quotient_less words words' w)
