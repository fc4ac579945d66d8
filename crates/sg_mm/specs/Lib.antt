pub mod Inside
pub mod Laws
pub mod MmFacts
pub mod MmObject
pub mod MmRow
pub mod MmSound
pub mod MmTable
pub use Rattle.sg_slots.specs as sg_slots
