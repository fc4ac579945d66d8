-- What private clauses and proofs speak of.
pub mod Keys
pub mod Replays
pub mod Routes
pub mod Seen
pub mod Stages
