-- What is proved of the service: they stand here for the members of its trait, and define nothing.
pub mod MmAlikeLaw
pub mod MmBlockedLaw
pub mod MmShapeLaw
pub mod MmSoundLaw
pub mod MmWalkLaw
