pub mod Explained
pub mod Inside
pub mod Places
pub mod Rebuilt
pub mod Stuck
pub mod Words
pub use Rattle.sg_input.specs.sg_facts as sg_facts
pub use Rattle.sg_input.specs as sg_input
