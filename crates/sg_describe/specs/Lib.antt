pub mod AnswerFaults
pub mod AnswerFlaws
pub mod DescribedText
pub mod Inside
pub mod Names
pub mod Said
pub use Rattle.sg_shape.specs.sg_facts as sg_facts
pub use Rattle.sg_shape.specs as sg_shape
pub use Rattle.sg_described.specs as sg_described
