pub mod Inside
pub mod Laws
pub mod RamfsFacts
pub mod RamfsFiles
pub mod RamfsObject
pub mod RamfsRow
pub mod RamfsSound
pub mod RamfsTable
pub use Rattle.sg_slots.specs as sg_slots
