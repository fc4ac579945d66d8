pub mod Directions
pub mod Prefixes
