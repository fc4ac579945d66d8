use Rattle.test_recovery.proofs.EndRuns.{slept_over_reboot-wrong}
use Rattle.test_recovery.proofs.ends.slept_over_reboot.Goals as goal

pub returns : goal.returns
returns c = record { wrong = slept_over_reboot-wrong }
