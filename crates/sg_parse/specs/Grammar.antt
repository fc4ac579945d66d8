-- The grammar of the interface language.
pub mod Inside
pub mod Parses
pub mod Pieces
pub mod Plain
pub mod Sentence
pub mod Upgraded
pub mod Words
