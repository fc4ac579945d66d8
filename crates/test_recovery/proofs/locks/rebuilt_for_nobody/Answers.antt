use Rattle.test_recovery.proofs.LockFaults.{rebuilt_for_nobody-wrong}
use Rattle.test_recovery.proofs.locks.rebuilt_for_nobody.Goals as goal

pub returns : goal.returns
returns c = record { wrong = rebuilt_for_nobody-wrong }
