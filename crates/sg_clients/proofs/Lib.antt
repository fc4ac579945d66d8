pub mod Lines
pub mod Phases
pub mod Seats
pub mod Waking
pub use Rattle.sg_hist.proofs as sg_hist
