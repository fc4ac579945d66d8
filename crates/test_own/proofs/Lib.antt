mod Rows
pub mod SameEvents
pub mod SameLocks
