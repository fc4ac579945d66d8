pub mod Decisions
pub mod Ordered
