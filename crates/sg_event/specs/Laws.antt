-- What is proved of the service: they stand here for the members of its trait, and define nothing.
pub mod EventAlikeLaw
pub mod EventBlockedLaw
pub mod EventShapeLaw
pub mod EventSoundLaw
pub mod EventWalkLaw
