use Rattle.test_recovery.proofs.LockFaults.{another_id-wrong}
use Rattle.test_recovery.proofs.locks.another_id.Goals as goal

pub returns : goal.returns
returns c = record { wrong = another_id-wrong }
