pub mod Inside
pub mod Reached
pub mod Runs
pub use Rattle.sg_sim.specs as sg_sim
pub use Rattle.sg_sim.specs.sg_play
