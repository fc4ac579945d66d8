use Rattle.test_recovery.proofs.LockFaults.{taken_twice-wrong}
use Rattle.test_recovery.proofs.locks.taken_twice.Goals as goal

pub returns : goal.returns
returns c = record { wrong = taken_twice-wrong }
