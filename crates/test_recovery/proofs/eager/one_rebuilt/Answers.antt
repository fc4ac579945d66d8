use Rattle.test_recovery.proofs.EagerRuns.{one_rebuilt-recovered, one_rebuilt-wrong}
use Rattle.test_recovery.proofs.eager.one_rebuilt.Goals as goal

pub returns : goal.returns
returns c = record { wrong = one_rebuilt-wrong; recovered = one_rebuilt-recovered }
