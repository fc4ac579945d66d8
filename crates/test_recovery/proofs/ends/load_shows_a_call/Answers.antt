use Rattle.test_recovery.proofs.EndRuns.{load_shows_a_call-wrong}
use Rattle.test_recovery.proofs.ends.load_shows_a_call.Goals as goal

pub returns : goal.returns
returns c = record { wrong = load_shows_a_call-wrong }
