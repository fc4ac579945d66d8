pub mod Answering
pub mod Children
pub mod Doing
pub mod Ending
pub mod Growing
pub mod Indexed
pub mod Places
pub use Rattle.sg_slots.proofs as sg_slots
