pub mod Explored
pub mod Inside
pub mod Text
pub mod Tried
pub use Rattle.sg_shared.specs as sg_shared
