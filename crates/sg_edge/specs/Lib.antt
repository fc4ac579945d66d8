pub mod Edge
pub mod Intake
pub mod Memory
pub mod Standard
pub mod Stops
