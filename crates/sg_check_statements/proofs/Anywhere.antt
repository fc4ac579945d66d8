-- What is wrong with a text depends neither on the places of its names nor on its version.
pub mod Accepting
pub mod Declaring
pub mod Flawed
pub mod Said
pub mod Splits
pub mod Versions
