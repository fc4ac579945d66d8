pub mod Grammar
pub mod Inside
pub mod Versions
pub use Rattle.sg_lex.specs as sg_lex
