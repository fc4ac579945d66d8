use Rattle.test_recovery.proofs.EndRuns.{held_asked_twice-recovered, held_asked_twice-wrong}
use Rattle.test_recovery.proofs.ends.held_asked_twice.Goals as goal

pub returns : goal.returns
returns c = record { wrong = held_asked_twice-wrong; recovered = held_asked_twice-recovered }
