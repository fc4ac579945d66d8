-- What is proved of the service: they stand here for the members of its trait, and define nothing.
pub mod TimerAlikeLaw
pub mod TimerBlockedLaw
pub mod TimerCountLaw
pub mod TimerShapeLaw
pub mod TimerSoundLaw
pub mod TimerWalkLaw
