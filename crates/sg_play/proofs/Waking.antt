-- That who waits is woken before it waits again.
pub mod Between
pub mod Boots
pub mod Calls
pub mod Items
pub mod Private
pub mod Shapes
pub mod Turned
pub mod Waiting
pub mod Waking
pub mod Woken
