pub mod EagerRuns
pub mod EndRuns
pub mod EventRuns
pub mod LockRuns
pub mod MmRuns
pub mod RamfsRuns
pub mod SchedRuns
pub mod StrictRuns
pub mod TimerRuns
pub mod Written
pub use Rattle.test_histories.specs as test_histories
pub use Rattle.test_histories.specs.sg_facts as sg_facts
