-- The automaton that the proofs rest on, and no public clause cites.
pub mod States
