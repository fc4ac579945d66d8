-- What the contracts of private functions cite.
pub mod Ahead
pub mod Classes
pub mod CodeWords
pub mod Cutting
pub mod Flaws
pub mod Forms
pub mod Making
pub mod Outlines
pub mod Parsing
pub mod Reads
pub mod Standing
pub mod States
