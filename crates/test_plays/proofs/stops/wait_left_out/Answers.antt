use Rattle.std.proofs.Common.{◌≡◌, arith, false, refl, true}
use Rattle.test_plays.proofs.stops.wait_left_out.Goals as goal

false_true : false ≡ true → ⊥
false_true e = absurd cc

pub returns : goal.returns
returns c = record {
  setup = record { done = omega arith; items = refl };
  follows = record { first_boot = refl; whole = λ none. refl };
  woken = (tt, (tt, (tt, (tt, tt))));
  not_asked = λ r. false_true r.first_boot;
}
