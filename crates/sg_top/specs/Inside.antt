-- What the contracts of private functions cite.
pub mod Delivery
pub mod Pieces
pub mod Plays
pub mod Ready
pub mod Several
pub mod Words
