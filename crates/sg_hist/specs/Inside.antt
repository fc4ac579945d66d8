-- What the proofs about runs name, and no clause that the program's callers see.
pub mod Entries
pub mod Parts
pub mod Reads
