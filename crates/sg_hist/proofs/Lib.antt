pub mod BriefEntries
pub mod Growing
pub mod OwnEntries
pub mod SameEntries
