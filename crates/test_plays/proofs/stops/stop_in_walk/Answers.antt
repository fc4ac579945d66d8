use Rattle.std.proofs.Common.{refl}
use Rattle.test_plays.proofs.stops.stop_in_walk.Goals as goal

pub returns : goal.returns
returns c = record {
  calls = record { each = ((refl, (refl, (refl, (refl, tt)))), tt); none_else = refl; setup = refl };
  stops = refl;
  plain = record { turns = 8; over = refl; is = refl };
  alone = λ is. refl;
}
