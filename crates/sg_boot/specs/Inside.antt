pub mod Asking
pub mod Journals
pub mod Rooms
pub mod Spare
