use Rattle.std.proofs.Common.{arith, refl}
use Rattle.test_plays.proofs.stops.setup_first.Goals as goal

pub returns : goal.returns
returns c = record {
  calls = record { each = ((refl, (refl, (refl, tt))), ((refl, tt), tt)); none_else = refl; setup = refl };
  setup = record { done = omega arith; items = refl };
  stops = refl;
  plain = record { turns = 9; over = refl; is = refl };
  follows = record { first_boot = refl; whole = λ none. refl };
  asks = record { first_boot = refl; whole = λ none. refl };
  woken = (tt, (tt, (refl, (tt, (tt, tt)))));
}
