-- What the contracts of private functions, and proofs, cite.
pub mod Adding
pub mod Jobs
pub mod Stopping
pub mod Sums
