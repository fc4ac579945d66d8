pub mod Answer
pub mod Headline
pub mod Inside
pub mod Status
pub use Rattle.sg_load.specs.sg_check
pub use Rattle.sg_load.specs as sg_load
