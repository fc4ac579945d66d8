-- Replays and loads, before a call is served.
pub mod Advancing
