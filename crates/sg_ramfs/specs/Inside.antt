-- What private clauses and proofs speak of.
pub mod RamfsAnswer
pub mod RamfsDecision
pub mod RamfsPaths
pub mod RamfsPlans
pub mod RamfsReplies
pub mod RamfsTree
