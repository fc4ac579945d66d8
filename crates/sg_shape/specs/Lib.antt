pub mod Faults
pub mod Fields
pub mod Flaws
pub mod Inside
pub mod Limits
pub mod Prototypes
pub mod ShapeOfText
pub use Rattle.sg_check_statements.specs.sg_facts as sg_facts
pub use Rattle.sg_check_statements.specs as sg_check_statements
