-- What the contracts of private functions cite.
pub mod Pieces
pub mod Search
