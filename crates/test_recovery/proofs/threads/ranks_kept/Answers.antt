use Rattle.test_recovery.proofs.SchedRuns.{ranks_kept-recovered}
use Rattle.test_recovery.proofs.threads.ranks_kept.Goals as goal

pub returns : goal.returns
returns c = record { recovered = ranks_kept-recovered }
