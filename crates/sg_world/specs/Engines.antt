-- What an engine, in the middle of a world, tells and keeps.
pub mod Engines
pub mod Stubs
