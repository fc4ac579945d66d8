use Rattle.test_recovery.proofs.LockFaults.{stop_at_another_number-wrong}
use Rattle.test_recovery.proofs.locks.stop_at_another_number.Goals as goal

pub returns : goal.returns
returns c = record { wrong = stop_at_another_number-wrong }
