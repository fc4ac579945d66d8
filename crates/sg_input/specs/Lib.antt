pub mod Divider
pub mod Examined
pub mod Inside
pub mod Judged
pub mod Inputs
pub mod Lines
pub mod MultiInputs
pub mod Verdicts
pub use Rattle.sg_facts.specs as sg_facts
pub use Rattle.sg_entries.specs as sg_entries
pub use Rattle.sg_print.specs as sg_print
pub use Rattle.sg_print.specs.sg_parse
pub use Rattle.sg_script.specs as sg_script
pub use Rattle.sg_script.specs.sg_lex
pub use Rattle.sg_stub.specs.sg_check
pub use Rattle.sg_stub.specs.sg_check_statements
pub use Rattle.sg_stub.specs.sg_walk
