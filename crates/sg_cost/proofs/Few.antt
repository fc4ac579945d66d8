-- That replayed calls of a boot are few.
pub mod Bounds
pub mod Counting
pub mod Lists
pub mod Numbered
pub mod Openings
pub mod Places
pub mod Rows
