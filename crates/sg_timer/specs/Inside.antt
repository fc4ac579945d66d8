-- What private clauses and proofs speak of.
pub mod TimerAnswer
pub mod TimerDecision
pub mod TimerFields
pub mod TimerFirst
pub mod TimerOrders
