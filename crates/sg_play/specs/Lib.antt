pub mod Asked
pub mod Following
pub mod GoingOn
pub mod NextCall
pub mod Recovering
pub mod SettingUp
pub mod Striking
pub mod Turning
pub mod Waking
pub use Rattle.sg_plain.specs.sg_hist
pub use Rattle.sg_plain.specs as sg_plain
pub use Rattle.sg_plain.specs.sg_script
pub use Rattle.sg_plain.specs.sg_clients
pub use Rattle.sg_world.specs as sg_world
pub use Rattle.sg_world.specs.sg_world_laws
