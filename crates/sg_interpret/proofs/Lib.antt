pub mod Answering
pub mod Applying
pub mod Carrying
pub mod Emptying
pub mod Invoking
pub mod Picking
