pub mod Inside
pub mod LeastWalks
pub mod Marks
pub mod ReachedStates
