mod AnyTurn
pub mod Beginning
mod Calls
mod Ending
mod Keeping
mod Lists
mod Others
mod Rebuilding
mod Taking
mod Turning
pub mod Turns
pub use Rattle.sg_play.proofs as sg_play
pub use Rattle.sg_play.proofs.sg_plain
