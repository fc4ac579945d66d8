pub mod Due
pub mod Engines
pub mod Inners
pub mod Inside
pub mod Marked
pub mod Steps
pub mod Worlded
pub use Rattle.sg_world_laws.specs.sg_recovery_laws
pub use Rattle.sg_world_laws.specs as sg_world_laws
pub use Rattle.sg_clients.specs as sg_clients
