use Rattle.test_recovery.proofs.LockFaults.{walk_from_its_middle-wrong}
use Rattle.test_recovery.proofs.locks.walk_from_its_middle.Goals as goal

pub returns : goal.returns
returns c = record { wrong = walk_from_its_middle-wrong }
