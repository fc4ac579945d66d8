use Rattle.std.proofs.Common.{◌≡◌, refl, arith}
use Rattle.test_plays.proofs.locks.stays_blocked.Goals as goal

pub returns : goal.returns
returns c = record {
  play = record { turns = 5; over = refl; is = refl };
  ends = record { clients = refl; each = (refl, ((refl, refl), tt)) };
  wrong = λ e. let n : 0 ≡ 1 = e.each.1.0 in omega (arith, n);
}
