use Rattle.test_recovery.proofs.EagerRuns.{both_rebuilt-recovered}
use Rattle.test_recovery.proofs.eager.both_rebuilt.Goals as goal

pub returns : goal.returns
returns c = record { recovered = both_rebuilt-recovered }
