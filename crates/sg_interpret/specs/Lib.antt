pub mod DescribedModel
pub mod DescribedRow
pub mod Inside
pub use Rattle.sg_described.specs.sg_facts as sg_facts
pub use Rattle.sg_described.specs as sg_described
