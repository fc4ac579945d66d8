-- The runs of the mm service that do not recover: what each of them lacks.
use Rattle.test_recovery.specs.MmRuns.{mm_stubs, child_first, parent_first_ends, parent_first_history}
use Rattle.sg_recovery_laws.specs.sg_hist.Recovered.{IsRecovered, waiting}
use Rattle.test_recovery.proofs.Apart.{false_true}

pub child_first-wrong : IsRecovered mm_stubs parent_first_history child_first (waiting parent_first_ends) → ⊥
child_first-wrong r = false_true r.walks.1.1.0.parent
