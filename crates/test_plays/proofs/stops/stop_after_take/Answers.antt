use Rattle.std.proofs.Common.{refl}
use Rattle.test_plays.proofs.stops.stop_after_take.Goals as goal

pub returns : goal.returns
returns c = record {
  calls = record { each = ((refl, (refl, (refl, (refl, tt)))), tt); none_else = refl; setup = refl };
  stops = refl;
  ends = record { clients = refl; each = (refl, tt) };
  done = refl;
  plain = record { turns = 8; over = refl; is = refl };
  follows = record { first_boot = refl; whole = λ none. refl };
  alone = λ is. refl;
  woken = (tt, (tt, (tt, (tt, (tt, (tt, tt))))));
}
