use Rattle.std.proofs.Common.{refl}
use Rattle.test_plays.proofs.locks.four_lock_calls.Goals as goal

pub returns : goal.returns
returns c = record { play = record { turns = 8; over = refl; is = refl } }
