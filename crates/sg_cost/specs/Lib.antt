pub mod Costs
pub mod Inside
pub mod Lines
