-- What the contracts of private functions, and proofs, cite.
pub mod Keeping
pub mod Played
pub mod Seats
pub mod Unpicked
