-- What the contracts of private functions cite.
pub mod Columns
pub mod Drawing
pub mod Places
pub mod Rows
