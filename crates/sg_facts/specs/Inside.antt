-- What the proofs about facts, rows and walks name, and no clause that the program's callers see.
pub mod Guards
pub mod Items
pub mod Rows
pub mod Walking
