use Rattle.test_recovery.proofs.MmRuns.{occupied_after_stop-recovered}
use Rattle.test_recovery.proofs.pages.occupied_after_stop.Goals as goal

pub returns : goal.returns
returns c = record { recovered = occupied_after_stop-recovered }
