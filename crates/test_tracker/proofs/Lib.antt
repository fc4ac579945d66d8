pub mod Carried
pub mod LockCalls
pub mod PageCalls
