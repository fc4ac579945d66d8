pub mod Flaws
pub mod Inside
pub mod Numbers
pub mod Reads
pub mod Scripts
pub use Rattle.sg_script_parse.specs.sg_lex
pub use Rattle.sg_script_parse.specs as sg_script_parse
