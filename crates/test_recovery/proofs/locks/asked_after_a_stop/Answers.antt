use Rattle.test_recovery.proofs.LockFaults.{asked_after_a_stop-wrong}
use Rattle.test_recovery.proofs.locks.asked_after_a_stop.Goals as goal

pub returns : goal.returns
returns c = record { wrong = asked_after_a_stop-wrong }
