use Rattle.test_recovery.proofs.StrictRuns.{made_and_stopped-recovered}
use Rattle.test_recovery.proofs.strict.made_and_stopped.Goals as goal

pub returns : goal.returns
returns c = record { recovered = made_and_stopped-recovered }
