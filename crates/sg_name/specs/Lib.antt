pub mod Inside
pub mod Names
