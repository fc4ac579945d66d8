-- What is proved of the service: they stand here for the members of its trait, and define nothing.
pub mod RamfsAlikeLaw
pub mod RamfsBlockedLaw
pub mod RamfsShapeLaw
pub mod RamfsSoundLaw
pub mod RamfsWalkLaw
