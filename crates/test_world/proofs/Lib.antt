pub mod NoWord
pub mod Seats
pub mod Values
