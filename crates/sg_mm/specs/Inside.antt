-- What private clauses and proofs speak of.
pub mod Children
pub mod MmAnswer
pub mod MmDoes
pub mod MmIndex
pub mod MmPlaces
