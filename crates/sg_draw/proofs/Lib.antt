-- Lemmas of pictures.
pub mod Documents
pub mod Heads
pub mod Lines
pub mod Kept
pub mod More
pub mod Wholes
