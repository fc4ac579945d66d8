pub mod Inside
pub mod Reasons
pub use Rattle.sg_known.specs.sg_facts as sg_facts
pub use Rattle.sg_known.specs as sg_known
pub use Rattle.sg_known.specs.sg_described
pub use Rattle.sg_known.specs.sg_walk as sg_walk
