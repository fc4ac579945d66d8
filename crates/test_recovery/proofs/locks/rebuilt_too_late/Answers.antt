use Rattle.test_recovery.proofs.LockFaults.{rebuilt_too_late-wrong}
use Rattle.test_recovery.proofs.locks.rebuilt_too_late.Goals as goal

pub returns : goal.returns
returns c = record { wrong = rebuilt_too_late-wrong }
