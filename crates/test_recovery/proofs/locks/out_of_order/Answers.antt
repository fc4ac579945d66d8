use Rattle.test_recovery.proofs.LockFaults.{out_of_order-wrong}
use Rattle.test_recovery.proofs.locks.out_of_order.Goals as goal

pub returns : goal.returns
returns c = record { wrong = out_of_order-wrong }
