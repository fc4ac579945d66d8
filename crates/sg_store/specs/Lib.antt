pub mod Committing
pub mod Inside
pub mod Spans
pub mod Stored
pub use Rattle.sg_track.specs as sg_track
