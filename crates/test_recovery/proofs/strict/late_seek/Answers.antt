use Rattle.test_recovery.proofs.StrictRuns.{late_seek-wrong}
use Rattle.test_recovery.proofs.strict.late_seek.Goals as goal

pub returns : goal.returns
returns c = record { wrong = late_seek-wrong }
