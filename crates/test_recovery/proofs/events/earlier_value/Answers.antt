use Rattle.test_recovery.proofs.EventFaults.{earlier_value-wrong}
use Rattle.test_recovery.proofs.events.earlier_value.Goals as goal

pub returns : goal.returns
returns c = record { wrong = earlier_value-wrong }
