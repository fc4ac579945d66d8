pub mod Advancing
pub mod Committing
pub mod Ending
pub mod Keeping
pub mod Seats
pub mod Setting
pub mod Turns
pub use Rattle.sg_recovery_laws.specs as sg_recovery_laws
pub use Rattle.sg_clients.specs as sg_clients
