pub mod Grammar
pub mod Inside
pub use Rattle.sg_rules.specs.sg_lex as sg_lex
pub use Rattle.sg_rules.specs as sg_rules
