pub mod ByToken
pub mod Grammar
pub mod Whole
