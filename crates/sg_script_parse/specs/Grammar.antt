-- The grammar of scripts.
pub mod Inside
pub mod Parses
pub mod Pieces
pub mod Sentence
