pub mod Committing
pub mod Engined
pub mod Inside
pub mod Missing
pub mod Present
pub mod Replaying
pub mod Serving
pub use Rattle.sg_boot.specs as sg_boot
pub use Rattle.sg_boot.specs.sg_hist
pub use Rattle.sg_name.specs as sg_name
pub use Rattle.sg_store.specs as sg_store
pub use Rattle.sg_needs.specs.sg_track
