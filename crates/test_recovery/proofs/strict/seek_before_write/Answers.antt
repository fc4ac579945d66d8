use Rattle.test_recovery.proofs.StrictRuns.{seek_before_write-wrong}
use Rattle.test_recovery.proofs.strict.seek_before_write.Goals as goal

pub returns : goal.returns
returns c = record { wrong = seek_before_write-wrong }
