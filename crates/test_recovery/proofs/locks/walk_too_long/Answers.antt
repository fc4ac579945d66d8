use Rattle.test_recovery.proofs.LockFaults.{walk_too_long-wrong}
use Rattle.test_recovery.proofs.locks.walk_too_long.Goals as goal

pub returns : goal.returns
returns c = record { wrong = walk_too_long-wrong }
