-- Places and sets of fields by their numbers, which no public clause cites.
pub mod Bits
pub mod Places
