pub mod AnswerLines
pub mod AnyInputs
pub mod Inside
pub mod Names
pub mod OwnExplained
pub mod OwnWords
pub mod ReasonLines
pub mod Said
pub use Rattle.sg_explain.specs as sg_explain
pub use Rattle.sg_explain.specs.sg_input
pub use Rattle.sg_own.specs as sg_own
