pub mod Clear
pub mod Few
pub mod Mapped
pub mod Finding
pub mod Plain
pub mod PlainFields
pub mod PlainRules
pub use Rattle.sg_described.proofs as sg_described
pub use Rattle.sg_shape.proofs as sg_shape
