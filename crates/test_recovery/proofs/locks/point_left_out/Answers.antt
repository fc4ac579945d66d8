use Rattle.test_recovery.proofs.LockFaults.{point_left_out-wrong}
use Rattle.test_recovery.proofs.locks.point_left_out.Goals as goal

pub returns : goal.returns
returns c = record { wrong = point_left_out-wrong }
