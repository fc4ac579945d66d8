pub mod Effects
pub mod Faults
pub mod Flaws
pub mod Inside
pub mod NameSet
pub mod Params
pub mod Says
pub mod Shapes
pub mod Stages
pub use Rattle.sg_facts.specs as sg_facts
pub use Rattle.sg_parse.specs as sg_parse
