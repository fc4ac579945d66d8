-- What descriptors can come to.
pub mod Inside
pub mod Triples
