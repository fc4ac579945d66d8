-- Lemmas of pictures that are read.
pub mod Bytes
pub mod Early
pub mod Lines
pub mod Pieces
pub mod Reading
pub mod Refused
