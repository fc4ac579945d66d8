use Rattle.test_recovery.proofs.EagerRuns.{second_first-wrong}
use Rattle.test_recovery.proofs.eager.second_first.Goals as goal

pub returns : goal.returns
returns c = record { wrong = second_first-wrong }
