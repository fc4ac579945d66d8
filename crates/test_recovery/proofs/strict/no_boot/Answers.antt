use Rattle.test_recovery.proofs.StrictRuns.{no_boot-wrong}
use Rattle.test_recovery.proofs.strict.no_boot.Goals as goal

pub returns : goal.returns
returns c = record { wrong = no_boot-wrong }
