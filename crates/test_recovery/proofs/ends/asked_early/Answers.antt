use Rattle.test_recovery.proofs.EndRuns.{asked_early-wrong}
use Rattle.test_recovery.proofs.ends.asked_early.Goals as goal

pub returns : goal.returns
returns c = record { wrong = asked_early-wrong }
