pub mod Inside
pub use Rattle.sg_check_statements.specs.sg_facts as sg_facts
pub use Rattle.sg_check_statements.specs as sg_check_statements
pub use Rattle.sg_check_statements.specs.Shapes
pub use Rattle.sg_check_statements.specs.sg_parse
pub use Rattle.sg_walk.specs as sg_walk
