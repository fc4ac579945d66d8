pub mod ByText
pub mod Moving
pub mod Parts
pub mod Paths
pub mod Placing
pub mod Received
pub mod Spots
