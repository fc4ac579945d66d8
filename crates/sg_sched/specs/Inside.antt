-- What private clauses and proofs speak of.
pub mod SchedAnswer
pub mod SchedDecision
pub mod SchedOrders
pub mod SchedRanks
