pub mod Clients
pub mod Inside
pub mod Rooms
pub mod WorldView
pub use Rattle.sg_hist.specs as sg_hist
