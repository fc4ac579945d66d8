-- What the contracts of private functions cite.
pub mod Ends
pub mod Givens
pub mod Keeps
pub mod Next
pub mod Taken
