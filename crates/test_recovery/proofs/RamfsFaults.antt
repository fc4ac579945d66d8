-- The runs of the ramfs service that do not recover: what each of them lacks.
use Rattle.test_recovery.specs.RamfsRuns.{ramfs_stubs, loaded_twice, file_loaded_ends, file_loaded_history}
use Rattle.sg_recovery_laws.specs.sg_hist.Recovered.{IsRecovered, waiting}
use Rattle.test_recovery.proofs.Apart.{true_false}

pub loaded_twice-wrong : IsRecovered ramfs_stubs file_loaded_history loaded_twice (waiting file_loaded_ends) → ⊥
loaded_twice-wrong r = true_false r.on_demand.1.1.1.1.0.absent
