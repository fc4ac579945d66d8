pub mod AllWhole
pub mod Committed
pub mod Due
pub mod Fitting
pub mod Marks
pub mod Naming
pub mod Serving
pub mod Stepped
pub mod Telling
pub mod Unnamed
pub mod Upwards
pub use Rattle.sg_boot.proofs as sg_boot
pub use Rattle.sg_name.proofs as sg_name
pub use Rattle.sg_needs.proofs.sg_track
