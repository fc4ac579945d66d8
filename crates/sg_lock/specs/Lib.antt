pub mod Inside
pub mod Laws
pub mod LockFacts
pub mod LockModel
pub mod LockRow
pub mod LockSound
pub mod LockTable
pub use Rattle.sg_slots.specs as sg_slots
