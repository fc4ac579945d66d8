pub mod LastBoot
pub mod Keeping
