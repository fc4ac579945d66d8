mod Checked
pub mod Playing
pub mod Printable
mod Repeats
pub mod Services
pub mod Steps
pub mod Wholes
pub use Rattle.sg_plain.proofs as sg_plain
