use Rattle.test_recovery.proofs.StrictRuns.{wait_stopped-wrong}
use Rattle.test_recovery.proofs.strict.wait_stopped.Goals as goal

pub returns : goal.returns
returns c = record { wrong = wait_stopped-wrong }
