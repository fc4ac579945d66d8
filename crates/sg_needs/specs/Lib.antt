pub mod Inside
pub mod Refused
pub use Rattle.sg_track.specs as sg_track
