pub mod Boots
pub mod Nexts
pub mod ReplayKinds
