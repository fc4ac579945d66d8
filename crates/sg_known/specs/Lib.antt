pub mod Seen
pub mod Surveys
pub use Rattle.sg_walk.specs as sg_walk
pub use Rattle.sg_described.specs.sg_facts as sg_facts
pub use Rattle.sg_described.specs as sg_described
