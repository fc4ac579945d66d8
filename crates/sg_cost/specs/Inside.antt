pub mod Fronts
pub mod LastBoots
pub mod Lines
pub mod Pieces
