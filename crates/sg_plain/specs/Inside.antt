-- What the proofs about plays name, and no clause that the program's callers see.
pub mod Kept
pub mod Turns
