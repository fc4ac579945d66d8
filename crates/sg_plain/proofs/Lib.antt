pub mod Ending
pub mod Flawless
pub mod Playing
pub use Rattle.sg_clients.proofs.sg_hist
pub use Rattle.sg_clients.proofs as sg_clients
