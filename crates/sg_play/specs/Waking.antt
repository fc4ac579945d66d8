-- Who waits, and is woken.
pub mod Waking
