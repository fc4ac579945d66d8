-- What a world keeps where a call is served, and its reply held or committed.
pub mod Later
pub mod Committed
pub mod Counting
pub mod Holding
pub mod Noted
pub mod Numbers
pub mod Recovering
pub mod Serving
pub mod Storing
pub mod Telling
pub mod Traced
pub mod Turning
