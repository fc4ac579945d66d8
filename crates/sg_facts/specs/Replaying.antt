-- What a service has to show so that walks go on.
pub mod Replays
