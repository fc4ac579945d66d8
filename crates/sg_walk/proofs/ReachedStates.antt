-- That all that descriptors can come to is found, each once.
pub mod Marks
pub mod Adding
pub mod Leading
pub mod Moves
pub mod Closure
pub mod Sets
pub mod Reaching
pub mod Triples
