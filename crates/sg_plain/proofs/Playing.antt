-- That each turn keeps it.
pub mod Calling
pub mod Ending
pub mod Giving
pub mod Lines
pub mod Playing
pub mod Resolving
pub mod Setting
pub mod Whole
