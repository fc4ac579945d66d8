use Rattle.test_recovery.proofs.RamfsRuns.{held_lost-recovered}
use Rattle.test_recovery.proofs.files.held_lost.Goals as goal

pub returns : goal.returns
returns c = record { recovered = held_lost-recovered }
