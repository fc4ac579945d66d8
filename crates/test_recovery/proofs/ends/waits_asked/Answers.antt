use Rattle.test_recovery.proofs.EndRuns.{waits_asked-recovered}
use Rattle.test_recovery.proofs.ends.waits_asked.Goals as goal

pub returns : goal.returns
returns c = record { recovered = waits_asked-recovered }
