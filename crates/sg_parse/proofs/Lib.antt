pub mod ByToken
pub mod Grammar
pub mod Whole
pub use Rattle.sg_rules.proofs.sg_lex as sg_lex
pub use Rattle.sg_rules.proofs as sg_rules
