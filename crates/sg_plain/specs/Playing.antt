-- What a play keeps while it goes on.
pub mod Callers
pub mod Ends
pub mod Given
pub mod Playable
pub mod Plays
pub mod Turns
