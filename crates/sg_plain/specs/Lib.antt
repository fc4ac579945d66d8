pub mod Answering
pub mod Calls
pub mod Ending
pub mod Inside
pub mod OneService
pub mod Plain
pub mod Playing
pub mod Promises
pub mod Script
pub use Rattle.sg_edge.specs as sg_edge
pub use Rattle.sg_clients.specs.sg_hist
pub use Rattle.sg_script.specs as sg_script
pub use Rattle.sg_clients.specs as sg_clients
