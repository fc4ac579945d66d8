use Rattle.test_recovery.proofs.TimerFaults.{waited_unset-wrong}
use Rattle.test_recovery.proofs.timers.waited_unset.Goals as goal

pub returns : goal.returns
returns c = record { wrong = waited_unset-wrong }
