use Rattle.test_recovery.proofs.EndRuns.{waits_unasked-recovered, waits_unasked-wrong}
use Rattle.test_recovery.proofs.ends.waits_unasked.Goals as goal

pub returns : goal.returns
returns c = record { wrong = waits_unasked-wrong; recovered = waits_unasked-recovered }
