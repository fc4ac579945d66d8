use Rattle.test_recovery.proofs.LockRuns.{stop_after_take-recovered}
use Rattle.test_recovery.proofs.locks.stop_after_take.Goals as goal

pub returns : goal.returns
returns c = record { recovered = stop_after_take-recovered }
