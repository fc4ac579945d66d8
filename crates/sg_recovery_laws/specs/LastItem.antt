-- What a run's last item owes.
pub mod Asked
pub mod LastPlace
pub mod Told
