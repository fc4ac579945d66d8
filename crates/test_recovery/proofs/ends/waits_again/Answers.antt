use Rattle.test_recovery.proofs.EndRuns.{waits_again-recovered, waits_again-wrong}
use Rattle.test_recovery.proofs.ends.waits_again.Goals as goal

pub returns : goal.returns
returns c = record { wrong = waits_again-wrong; recovered = waits_again-recovered }
