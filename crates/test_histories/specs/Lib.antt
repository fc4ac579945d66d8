pub mod EventRows
pub mod LockRows
pub mod MmRows
pub mod RamfsRows
pub mod SchedRows
pub mod TimerRows
pub mod Written
pub use Rattle.sg_facts.specs as sg_facts
pub use Rattle.sg_load.specs.Services.sg_event
pub use Rattle.sg_load.specs.Services.sg_lock
pub use Rattle.sg_load.specs.Services.sg_mm
pub use Rattle.sg_load.specs.Services.sg_ramfs
pub use Rattle.sg_load.specs.Services.sg_sched
pub use Rattle.sg_load.specs.Services.sg_timer
