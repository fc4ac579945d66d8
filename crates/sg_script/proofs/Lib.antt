pub mod Earliest
pub mod Held
pub mod Naming
pub mod Parts
pub mod Stops
pub mod Unique
