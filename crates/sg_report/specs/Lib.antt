pub mod Inside
pub mod Report
pub use Rattle.sg_hist.specs as sg_hist
