use Rattle.test_recovery.proofs.MmFaults.{child_first-wrong}
use Rattle.test_recovery.proofs.pages.child_first.Goals as goal

pub returns : goal.returns
returns c = record { wrong = child_first-wrong }
