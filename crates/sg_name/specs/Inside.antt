pub mod Both
pub mod Kept
