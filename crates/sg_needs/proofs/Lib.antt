pub mod Lines
pub use Rattle.sg_track.proofs as sg_track
