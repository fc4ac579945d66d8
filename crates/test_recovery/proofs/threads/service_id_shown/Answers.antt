use Rattle.test_recovery.proofs.SchedFaults.{service_id_shown-wrong}
use Rattle.test_recovery.proofs.threads.service_id_shown.Goals as goal

pub returns : goal.returns
returns c = record { wrong = service_id_shown-wrong }
