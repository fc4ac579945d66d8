use Rattle.test_recovery.proofs.StrictRuns.{rebuilt_for_refused-wrong}
use Rattle.test_recovery.proofs.strict.rebuilt_for_refused.Goals as goal

pub returns : goal.returns
returns c = record { wrong = rebuilt_for_refused-wrong }
