pub mod Answers
pub mod Commands
mod Costing
mod Digits
pub mod EachKind
pub mod Fitting
pub mod Judging
pub mod Named
pub mod Refusals
pub mod Running
pub mod Saying
mod Serving
pub mod Several
