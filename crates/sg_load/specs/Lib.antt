pub mod Drawn
pub mod Generated
pub mod Inside
pub mod Services
pub use Rattle.sg_check.specs as sg_check
pub use Rattle.sg_check.specs.sg_check_statements
pub use Rattle.sg_plain.specs as sg_plain
