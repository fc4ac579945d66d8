use Rattle.test_recovery.proofs.LockFaults.{rebuilt_needlessly-wrong}
use Rattle.test_recovery.proofs.locks.rebuilt_needlessly.Goals as goal

pub returns : goal.returns
returns c = record { wrong = rebuilt_needlessly-wrong }
