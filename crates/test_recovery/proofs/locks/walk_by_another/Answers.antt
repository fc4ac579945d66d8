use Rattle.test_recovery.proofs.LockFaults.{walk_by_another-wrong}
use Rattle.test_recovery.proofs.locks.walk_by_another.Goals as goal

pub returns : goal.returns
returns c = record { wrong = walk_by_another-wrong }
