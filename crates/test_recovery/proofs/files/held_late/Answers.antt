use Rattle.test_recovery.proofs.RamfsRuns.{held_late-recovered}
use Rattle.test_recovery.proofs.files.held_late.Goals as goal

pub returns : goal.returns
returns c = record { recovered = held_late-recovered }
