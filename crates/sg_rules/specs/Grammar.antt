-- The grammar of rules.
pub mod Inside
pub mod Pieces
pub mod Plain
pub mod Sentence
pub mod Words
