-- What is proved of described services.
pub mod AlikeLaw
pub mod Answering
pub mod Basics
pub mod BlockedLaw
pub mod CountLaw
pub mod Effects
pub mod Fitting
pub mod Guarded
pub mod InRanges
pub mod Lasting
pub mod Marking
pub mod NeverZeros
pub mod SafeLaw
pub mod ShapeLaw
pub mod SoundLaw
pub mod Spots
pub mod WalkLaw
