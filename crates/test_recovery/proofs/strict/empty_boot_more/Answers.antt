use Rattle.test_recovery.proofs.StrictRuns.{empty_boot_more-recovered, empty_boot_more-wrong}
use Rattle.test_recovery.proofs.strict.empty_boot_more.Goals as goal

pub returns : goal.returns
returns c = record { wrong = empty_boot_more-wrong; recovered = empty_boot_more-recovered }
