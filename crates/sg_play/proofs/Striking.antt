-- That each stop was asked for.
pub mod Asks
pub mod Boots
pub mod Held
pub mod Made
pub mod Now
pub mod Striking
pub mod Struck
