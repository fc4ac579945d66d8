-- What private clauses and proofs speak of.
pub mod Calls
pub mod Events
pub mod Places
pub mod Rule
pub mod Steps
pub mod TicketLock
