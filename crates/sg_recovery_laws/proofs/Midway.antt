-- What a service in the middle of a recovery answers.
pub mod Back
pub mod Dropped
pub mod Glue
pub mod Least
pub mod Numbers
pub mod Rest
pub mod Served
pub mod Stepping
pub mod Tabled
pub mod Walking
