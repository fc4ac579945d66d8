use Rattle.std.proofs.Common.{refl}
use Rattle.test_recovery.proofs.LockRuns.{stop_in_walk-recovered}
use Rattle.test_recovery.proofs.locks.stop_in_walk.Goals as goal

pub returns : goal.returns
returns c = record { recovered = stop_in_walk-recovered; struck = refl }
