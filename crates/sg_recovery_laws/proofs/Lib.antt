pub mod Events
pub mod Given
pub mod InBoots
pub mod LastItem
pub mod Lists
pub mod Midway
pub mod Objects
pub mod Onward
pub mod Points
pub mod Same
pub mod Served
pub mod Stays
pub mod StoppedAfter
pub mod UnderWay
pub use Rattle.sg_hist.proofs as sg_hist
pub use Rattle.sg_track.proofs as sg_track
