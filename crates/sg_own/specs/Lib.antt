pub mod Faults
pub mod OwnErrors
pub mod OwnInterfaces
pub mod SafePlaces
pub use Rattle.sg_describe.specs as sg_describe
pub use Rattle.sg_describe.specs.sg_described as sg_described
pub use Rattle.sg_describe.specs.sg_shape as sg_shape
pub use Rattle.sg_safe.specs as sg_safe
pub use Rattle.sg_check.specs as sg_check
pub use Rattle.sg_check.specs.sg_check_statements as sg_check_statements
