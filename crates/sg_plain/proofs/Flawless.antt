-- That a script without a flaw may be played.
pub mod Clients
pub mod Flawless
pub mod Once
pub mod Parts
