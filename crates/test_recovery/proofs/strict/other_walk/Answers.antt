use Rattle.test_recovery.proofs.StrictRuns.{long_stubs-wrong}
use Rattle.test_recovery.proofs.strict.other_walk.Goals as goal

pub returns : goal.returns
returns c = record { wrong = long_stubs-wrong }
