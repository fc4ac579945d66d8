-- A sentence has one tree, and a text one answer.
pub mod Alive
pub mod Basics
pub mod Parts
pub mod Protos
pub mod Readings
pub mod Rests
pub mod Runs
pub mod Steps
