-- The automaton reads exactly the rules.
pub mod Basics
pub mod Ends
pub mod Goes
pub mod Grown
pub mod Runs
pub mod Steps
pub mod Thens
