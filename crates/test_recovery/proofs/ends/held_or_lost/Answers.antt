use Rattle.test_recovery.proofs.EndRuns.{held_late-lost, held_lost-lost}
use Rattle.test_recovery.proofs.ends.held_or_lost.Goals as goal

pub returns : goal.returns
returns c = record { lost = held_lost-lost; held = held_late-lost }
