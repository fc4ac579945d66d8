use Rattle.test_recovery.proofs.EndRuns.{asked_late-wrong}
use Rattle.test_recovery.proofs.ends.asked_late.Goals as goal

pub returns : goal.returns
returns c = record { wrong = asked_late-wrong }
