pub mod LastItem
pub mod Midway
pub mod Objects
pub use Rattle.sg_hist.specs as sg_hist
pub use Rattle.sg_track.specs as sg_track
