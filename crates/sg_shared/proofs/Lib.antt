mod Keeping
mod Passing
mod Reaching
mod Running
