-- That what a play keeps is, at its end, what it promises.
pub mod Alone
mod Players
pub mod Plays
