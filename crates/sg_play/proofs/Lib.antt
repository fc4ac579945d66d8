pub mod Ends
pub mod Finding
pub mod Following
pub mod Fronts
pub mod Given
pub mod GoingOn
pub mod Offering
pub mod SettingUp
pub mod Striking
pub mod Stepping
pub mod Turning
pub mod Waking
pub mod Withdrawn
pub use Rattle.sg_plain.proofs as sg_plain
pub use Rattle.sg_world.proofs as sg_world
