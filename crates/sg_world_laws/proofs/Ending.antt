-- How a run would end, where the run and the seats of its clients change by one event.
pub mod Blocked
pub mod Boots
pub mod Calls
pub mod Ended
pub mod Lost
pub mod Seats
pub mod Shapes
pub mod Wakers
