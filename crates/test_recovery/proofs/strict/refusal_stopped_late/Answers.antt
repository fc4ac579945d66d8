use Rattle.test_recovery.proofs.StrictRuns.{refusal_stopped_late-wrong}
use Rattle.test_recovery.proofs.strict.refusal_stopped_late.Goals as goal

pub returns : goal.returns
returns c = record { wrong = refusal_stopped_late-wrong }
