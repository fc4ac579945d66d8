use Rattle.test_recovery.proofs.EndRuns.{counted_for_nothing-wrong, made_at_the_end-counted}
use Rattle.test_recovery.proofs.ends.counted_to_the_end.Goals as goal

pub returns : goal.returns
returns c = record { wrong = counted_for_nothing-wrong; still = made_at_the_end-counted }
