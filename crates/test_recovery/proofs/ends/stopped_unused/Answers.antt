use Rattle.test_recovery.proofs.EndRuns.{stopped_unused-wrong}
use Rattle.test_recovery.proofs.ends.stopped_unused.Goals as goal

pub returns : goal.returns
returns c = record { wrong = stopped_unused-wrong }
