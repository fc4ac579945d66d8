-- What the contracts of private functions cite.
pub mod Asked
pub mod Callers
pub mod Ended
pub mod Following
pub mod Keeps
pub mod Member
pub mod Numbers
pub mod SettingUp
pub mod Turns
pub mod Whose
