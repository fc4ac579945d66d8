pub mod Among
pub mod Keeping
pub use Rattle.sg_slots.proofs as sg_slots
