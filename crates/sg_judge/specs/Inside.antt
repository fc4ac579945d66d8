-- What the contracts of private functions cite.
pub mod Examined
pub mod Places
pub mod Told
