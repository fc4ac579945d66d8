-- What is proved of the service: they stand here for the members of its trait, and define nothing.
pub mod LockAlikeLaw
pub mod LockBlockedLaw
pub mod LockShapeLaw
pub mod LockSoundLaw
pub mod LockWalkLaw
