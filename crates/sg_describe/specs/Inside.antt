-- What the contracts of private functions cite.
pub mod Parts
pub mod Stages
