pub mod Itself
pub mod NoReason
pub mod One
