pub mod Listing
pub mod Settling
pub use Rattle.sg_described.proofs as sg_described
pub use Rattle.sg_walk.proofs as sg_walk
