pub mod Clients
pub mod Ending
pub mod Growing
pub mod Inside
pub mod Lent
pub mod Reading
pub mod Recovered
pub mod Wakes
