use Rattle.test_recovery.proofs.StrictRuns.{double_stubs-wrong}
use Rattle.test_recovery.proofs.strict.line_twice.Goals as goal

pub returns : goal.returns
returns c = record { wrong = double_stubs-wrong }
