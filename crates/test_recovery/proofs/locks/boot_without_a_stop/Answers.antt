use Rattle.test_recovery.proofs.LockFaults.{boot_without_a_stop-wrong}
use Rattle.test_recovery.proofs.locks.boot_without_a_stop.Goals as goal

pub returns : goal.returns
returns c = record { wrong = boot_without_a_stop-wrong }
