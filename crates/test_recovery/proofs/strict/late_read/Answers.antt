use Rattle.test_recovery.proofs.StrictRuns.{late_read-wrong}
use Rattle.test_recovery.proofs.strict.late_read.Goals as goal

pub returns : goal.returns
returns c = record { wrong = late_read-wrong }
