-- What private clauses and proofs speak of.
pub mod EventAnswer
pub mod EventDecision
