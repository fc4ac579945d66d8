use Rattle.test_recovery.proofs.LockFaults.{point_asked_in_vain-counted, point_asked_in_vain-wrong}
use Rattle.test_recovery.proofs.locks.point_asked_in_vain.Goals as goal

pub returns : goal.returns
returns c = record { wrong = point_asked_in_vain-wrong; counted = point_asked_in_vain-counted }
