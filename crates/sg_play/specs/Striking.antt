-- Stops, and the calls that asked for them.
pub mod Striking
