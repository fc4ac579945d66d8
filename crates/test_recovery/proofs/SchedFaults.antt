-- The runs of the sched service that do not recover: what each of them lacks.
use Rattle.test_recovery.specs.SchedRuns.{sched_stubs, service_id_shown, shown_id_ends, shown_id_history}
use Rattle.sg_recovery_laws.specs.sg_hist.Recovered.{IsRecovered, waiting}
use Rattle.test_recovery.proofs.Apart.{false_true}

pub service_id_shown-wrong : IsRecovered sched_stubs shown_id_history service_id_shown (waiting shown_id_ends) → ⊥
service_id_shown-wrong r = false_true r.served.items.1.1.1.1.1.0.1.2
