pub mod Entry
pub mod Flaws
pub mod Inside
pub mod Lines
pub mod Order
pub mod Parses
pub mod Pieces
pub mod Printed
pub mod Reads
pub mod Standing
pub use Rattle.sg_facts.specs.sg_base
pub use Rattle.sg_lex.specs as sg_lex
pub use Rattle.sg_report.specs as sg_report
pub use Rattle.sg_report.specs.sg_hist
pub use Rattle.sg_script.specs as sg_script
