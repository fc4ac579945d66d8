pub mod Drafts
pub mod Kept
pub mod Tracked
