-- A service in the middle of a recovery, beside the object that never fails.
pub mod Numbers
pub mod Progress
pub mod Stepping
