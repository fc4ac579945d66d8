pub mod Asking
pub mod Indexing
pub mod NoText
pub mod Right
pub mod RightWrites
pub mod Trees
pub mod Writing
