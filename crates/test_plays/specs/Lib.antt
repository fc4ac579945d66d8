pub mod FilePlays
pub mod LockPlays
pub mod SeveralPlays
pub mod StopPlays
