pub mod Inside
pub use Rattle.sg_check.specs as sg_check
pub use Rattle.sg_check.specs.sg_check_statements
pub use Rattle.sg_check.specs.sg_parse
pub use Rattle.sg_check.specs.sg_walk
