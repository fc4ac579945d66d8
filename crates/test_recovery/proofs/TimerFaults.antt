-- The run of the timer service that does not recover: what it lacks.
use Rattle.test_recovery.specs.TimerRuns.{timer_stubs, time_kept_ends, time_kept_history, waited_unset}
use Rattle.sg_recovery_laws.specs.sg_hist.Recovered.{IsRecovered, waiting}
use Rattle.test_recovery.proofs.Apart.{false_true}

pub waited_unset-wrong : IsRecovered timer_stubs time_kept_history waited_unset (waiting time_kept_ends) → ⊥
waited_unset-wrong r = false_true r.tracked_state.1.1.1.1.0.whole
