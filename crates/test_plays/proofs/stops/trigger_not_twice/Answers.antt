use Rattle.std.proofs.Common.{refl}
use Rattle.test_plays.proofs.stops.trigger_not_twice.Goals as goal

pub returns : goal.returns
returns c = record {
  calls = record { each = ((refl, (refl, tt)), ((refl, tt), tt)); none_else = refl; setup = refl };
  stops = refl;
  ends = record { clients = refl; each = (refl, ((refl, refl), tt)) };
  waits = refl;
  plain = record { turns = 7; over = refl; is = refl };
  follows = record { first_boot = refl; whole = λ none. refl };
  woken = (tt, (tt, (tt, (tt, (tt, (refl, tt))))));
}
