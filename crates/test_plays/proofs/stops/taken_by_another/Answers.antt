use Rattle.std.proofs.Common.{refl}
use Rattle.test_plays.proofs.stops.taken_by_another.Goals as goal

pub returns : goal.returns
returns c = record {
  calls = record { each = ((refl, (refl, tt)), (tt, ((refl, tt), tt))); none_else = refl; setup = refl };
  stops = refl;
  plain = record { turns = 9; over = refl; is = refl };
  follows = record { first_boot = refl; whole = λ none. refl };
  asks = record { first_boot = refl; whole = λ none. refl };
  woken = (tt, (refl, (tt, (tt, (refl, tt)))));
}
