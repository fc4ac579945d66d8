-- What the contracts of private functions cite.
pub mod Dividing
pub mod Parted
pub mod Places
pub mod Said
