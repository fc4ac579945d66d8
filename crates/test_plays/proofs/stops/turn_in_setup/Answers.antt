use Rattle.std.proofs.Common.{◌≡◌, false, refl, true}
use Rattle.test_plays.proofs.stops.turn_in_setup.Goals as goal

false_true : false ≡ true → ⊥
false_true e = absurd cc

pub returns : goal.returns
returns c = record {
  stops = refl;
  follows = record { first_boot = refl; whole = λ none. refl };
  woken = (tt, (refl, (tt, (tt, (tt, tt)))));
  not_first = λ r. false_true r.items;
  not_asked = λ r. false_true r.first_boot;
}
