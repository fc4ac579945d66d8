use Rattle.test_recovery.proofs.StrictRuns.{write_before_seek-wrong}
use Rattle.test_recovery.proofs.strict.write_before_seek.Goals as goal

pub returns : goal.returns
returns c = record { wrong = write_before_seek-wrong }
