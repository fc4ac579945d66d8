-- What private clauses and proofs speak of.
pub mod QueueIndex
pub mod QueueKeys
