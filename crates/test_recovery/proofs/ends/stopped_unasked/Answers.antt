use Rattle.test_recovery.proofs.EndRuns.{stopped_unasked-recovered, stopped_unasked-wrong}
use Rattle.test_recovery.proofs.ends.stopped_unasked.Goals as goal

pub returns : goal.returns
returns c = record { wrong = stopped_unasked-wrong; recovered = stopped_unasked-recovered }
