use Rattle.test_recovery.proofs.StrictRuns.{no_boot_for_a_refusal-wrong}
use Rattle.test_recovery.proofs.strict.no_boot_for_a_refusal.Goals as goal

pub returns : goal.returns
returns c = record { wrong = no_boot_for_a_refusal-wrong }
