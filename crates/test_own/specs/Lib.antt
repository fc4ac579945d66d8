pub mod OwnTexts
pub mod Standard
pub use Rattle.sg_load.specs as sg_load
pub use Rattle.sg_shape.specs as sg_shape
