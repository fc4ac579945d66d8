use Rattle.test_recovery.proofs.StrictRuns.{two_boots_more-wrong}
use Rattle.test_recovery.proofs.strict.two_boots_more.Goals as goal

pub returns : goal.returns
returns c = record { wrong = two_boots_more-wrong }
