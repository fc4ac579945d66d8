use Rattle.test_recovery.proofs.EndRuns.{stopped_idle-recovered}
use Rattle.test_recovery.proofs.ends.stopped_idle.Goals as goal

pub returns : goal.returns
returns c = record { recovered = stopped_idle-recovered }
