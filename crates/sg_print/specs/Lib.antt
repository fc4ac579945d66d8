pub mod Inside
pub mod Printed
pub mod PrintsBack
pub mod RulesText
pub mod TablesText
pub use Rattle.sg_parse.specs.sg_lex
pub use Rattle.sg_parse.specs as sg_parse
