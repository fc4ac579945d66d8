pub mod Few
pub mod OneFile
