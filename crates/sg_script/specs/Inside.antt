-- What the contracts of private functions cite.
pub mod Args
pub mod Firsts
pub mod Fronts
pub mod Held
pub mod Parts
