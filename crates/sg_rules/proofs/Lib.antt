pub mod ByToken
pub mod Grammar
pub mod Seen
pub use Rattle.sg_lex.proofs as sg_lex
