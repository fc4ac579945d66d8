pub mod Inside
pub mod Laws
pub mod SchedFacts
pub mod SchedObject
pub mod SchedRow
pub mod SchedSound
pub mod SchedTable
pub use Rattle.sg_slots.specs as sg_slots
