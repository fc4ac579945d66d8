-- What private clauses and proofs speak of.
pub mod LockAnswer
pub mod LockDecision
