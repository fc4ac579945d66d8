-- A script has one list of parts, and a text one answer.
pub mod Basics
pub mod Goes
pub mod Grown
pub mod Readings
pub mod Runs
pub mod Thens
