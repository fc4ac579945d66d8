pub mod Keying
pub mod Plainly
pub mod Reasoning
pub mod Routing
pub mod Seeing
pub mod Waits
