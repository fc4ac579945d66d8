use Rattle.test_recovery.proofs.LockFaults.{served_without_a_walk-wrong}
use Rattle.test_recovery.proofs.locks.served_without_a_walk.Goals as goal

pub returns : goal.returns
returns c = record { wrong = served_without_a_walk-wrong }
