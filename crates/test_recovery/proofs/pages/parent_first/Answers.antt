use Rattle.test_recovery.proofs.MmRuns.{parent_first-recovered}
use Rattle.test_recovery.proofs.pages.parent_first.Goals as goal

pub returns : goal.returns
returns c = record { recovered = parent_first-recovered }
