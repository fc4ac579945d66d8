pub mod Locks
pub mod Ready
