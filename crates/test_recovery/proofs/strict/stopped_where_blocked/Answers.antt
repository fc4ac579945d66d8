use Rattle.test_recovery.proofs.StrictRuns.{stopped_where_blocked-wrong}
use Rattle.test_recovery.proofs.strict.stopped_where_blocked.Goals as goal

pub returns : goal.returns
returns c = record { wrong = stopped_where_blocked-wrong }
