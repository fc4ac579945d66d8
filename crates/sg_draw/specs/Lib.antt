pub mod Documents
pub mod Inside
pub mod Labels
pub mod Pictures
pub mod Shown
