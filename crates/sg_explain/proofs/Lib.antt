pub mod Alone
pub mod Explained
pub mod Protos
pub mod Refusing
pub mod Searching
pub mod Seams
pub mod Telling
pub use Rattle.sg_input.proofs as sg_input
