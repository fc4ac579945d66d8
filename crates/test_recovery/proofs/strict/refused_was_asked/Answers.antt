use Rattle.test_recovery.proofs.StrictRuns.{refused_was_asked-wrong}
use Rattle.test_recovery.proofs.strict.refused_was_asked.Goals as goal

pub returns : goal.returns
returns c = record { wrong = refused_was_asked-wrong }
