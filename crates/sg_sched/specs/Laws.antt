-- What is proved of the service: they stand here for the members of its trait, and define nothing.
pub mod SchedAlikeLaw
pub mod SchedBlockedLaw
pub mod SchedShapeLaw
pub mod SchedSoundLaw
pub mod SchedWalkLaw
