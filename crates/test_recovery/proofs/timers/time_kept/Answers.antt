use Rattle.test_recovery.proofs.TimerRuns.{time_kept-recovered}
use Rattle.test_recovery.proofs.timers.time_kept.Goals as goal

pub returns : goal.returns
returns c = record { recovered = time_kept-recovered }
