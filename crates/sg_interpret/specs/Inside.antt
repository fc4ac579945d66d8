-- What private clauses and proofs speak of.
pub mod Answers
pub mod Deciding
pub mod Fields
pub mod Views
