use Rattle.std.proofs.Common.{◌≡◌, ap, arith, false, length, refl, true}
use Rattle.test_plays.proofs.stops.wrong_plays.Goals as goal

false_true : false ≡ true → ⊥
false_true e = absurd cc

pub returns : goal.returns
returns c = record {
  exchanged = λ r. let e : 4 ≡ 2 = ap (λ call. call.fun) r.each.0.1.0 in omega (arith, e);
  left_out = λ r. let e : 4 ≡ 3 = ap (λ call. call.fun) r.each.0.1.1.0 in omega (arith, e);
  not_set_up = λ r. omega (arith, r.done);
  no_such_stop = λ r. let e : 1 ≡ 0 = ap length r in omega (arith, e);
  not_stopped = λ r. let e : 0 ≡ 1 = ap length r in omega (arith, e);
  not_done = λ r. let e : 3 ≡ 4 = r.each.0 in omega (arith, e);
  no_plain = λ r. let e : 3 ≡ 4 = ap length (r.whole refl) in omega (arith, e);
  other_first_boot = λ r. let e : 2 ≡ 0 = ap length r.first_boot in omega (arith, e);
  not_alone = λ r. let e : 3 ≡ 4 = ap length (r refl) in omega (arith, e);
  not_woken = λ r. false_true r.1.0;
}
