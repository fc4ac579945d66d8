-- That a run's last item has what it owes.
pub mod Later
pub mod Making
pub mod Noting
pub mod Reached
pub mod Reading
pub mod Reorder
pub mod Replying
pub mod Sound
