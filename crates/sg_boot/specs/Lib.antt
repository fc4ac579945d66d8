pub mod Cells
pub mod Inside
pub mod Invoking
pub use Rattle.sg_hist.specs as sg_hist
