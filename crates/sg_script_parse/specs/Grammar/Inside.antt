-- The automaton and the names that the proofs rest on, and no public clause cites.
pub mod Forms
pub mod Pieces
pub mod States
