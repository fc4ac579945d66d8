pub mod BriefItems
pub mod Halving
pub mod Legality
pub mod Places
pub mod Replaying
pub mod RowLists
pub mod WalkLists
