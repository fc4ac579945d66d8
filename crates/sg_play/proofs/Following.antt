-- That a play follows the play without stops until the service stops.
pub mod Asks
pub mod Created
pub mod Following
pub mod Numbered
pub mod Onward
pub mod Players
pub mod Seats
pub mod Stepped
pub mod Stopped
pub mod There
pub mod Turned
pub mod Turns
pub mod Whose
