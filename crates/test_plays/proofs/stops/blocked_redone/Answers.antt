use Rattle.std.proofs.Common.{arith, refl}
use Rattle.test_plays.proofs.stops.blocked_redone.Goals as goal

pub returns : goal.returns
returns c = record {
  calls = record { each = ((refl, (refl, tt)), ((refl, tt), tt)); none_else = refl; setup = refl };
  stops = refl;
  ends = record { clients = refl; each = (refl, (refl, tt)) };
  done = refl;
  plain = record { turns = 7; over = refl; is = refl };
  follows = record { first_boot = refl; whole = λ none. refl };
  woken = (tt, (refl, (tt, (tt, (tt, tt)))));
  setup = record { done = omega arith; items = refl };
}
