use Rattle.test_recovery.proofs.StrictRuns.{free_stopped_late-wrong}
use Rattle.test_recovery.proofs.strict.free_stopped_late.Goals as goal

pub returns : goal.returns
returns c = record { wrong = free_stopped_late-wrong }
