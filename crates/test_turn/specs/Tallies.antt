-- What the log of a tally is, and what a client leaves of its seat.
use Rattle.std.specs.Prelude.{◌≡◌, ℕ, false, List, map}
use Rattle.sg_turn.specs.Seats.{SeatView}
use Rattle.sg_turn.specs.declared.log.LogMark.{LogMark}
use Rattle.sg_turn.specs.declared.log.LogMarkKind.TheVariants.{Answer}

-- each note of a client is an answer to it
abbrev pub answers : List ℕ → List LogMark
answers clients = map (λ c. record { client = c; kind = Answer }) clients

-- the same seat, which doesn't hold the value
pub record StaysFree (old new : SeatView) : Type 0 where
  pub turn : new.turn ≡ old.turn
  pub number : new.number ≡ old.number
  pub last : new.last ≡ old.last
  pub free : new.holds ≡ false
