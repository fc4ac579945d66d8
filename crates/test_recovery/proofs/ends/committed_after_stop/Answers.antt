use Rattle.test_recovery.proofs.EndRuns.{committed_after_stop-lost, committed_after_stop-recovered, committed_after_stop-wrong}
use Rattle.test_recovery.proofs.ends.committed_after_stop.Goals as goal

pub returns : goal.returns
returns c = record { wrong = committed_after_stop-wrong; recovered = committed_after_stop-recovered; lost = committed_after_stop-lost }
