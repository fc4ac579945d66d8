use Rattle.std.proofs.Common.{refl}
use Rattle.test_plays.proofs.locks.wait_and_wake.Goals as goal

pub returns : goal.returns
returns c = record {
  play = record { turns = 11; over = refl; is = refl };
  ends = record { clients = refl; each = (refl, (refl, tt)) };
}
