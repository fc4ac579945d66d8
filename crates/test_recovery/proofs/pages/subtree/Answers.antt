use Rattle.test_recovery.proofs.MmRuns.{subtree-recovered}
use Rattle.test_recovery.proofs.pages.subtree.Goals as goal

pub returns : goal.returns
returns c = record { recovered = subtree-recovered }
