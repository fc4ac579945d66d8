use Rattle.test_recovery.proofs.LockFaults.{half_a_walk-wrong}
use Rattle.test_recovery.proofs.locks.half_a_walk.Goals as goal

pub returns : goal.returns
returns c = record { wrong = half_a_walk-wrong }
