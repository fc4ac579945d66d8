mod Adding
mod Summing
mod Trying
