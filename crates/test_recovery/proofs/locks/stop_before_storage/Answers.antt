use Rattle.test_recovery.proofs.LockRuns.{stop_before_storage-recovered}
use Rattle.test_recovery.proofs.locks.stop_before_storage.Goals as goal

pub returns : goal.returns
returns c = record { recovered = stop_before_storage-recovered }
