-- How far an interface is found to be good, which no public clause cites.
pub mod Answers
pub mod Candidates
pub mod Numbers
pub mod Reached
pub mod Stuck
