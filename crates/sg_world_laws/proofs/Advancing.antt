-- What a world keeps where a row is rebuilt or a file loaded.
pub mod Admitted
pub mod Advances
pub mod Later
pub mod Counting
pub mod Files
pub mod Loading
pub mod Noted
pub mod Plain
pub mod Rebuilding
pub mod Replayed
pub mod Waited
