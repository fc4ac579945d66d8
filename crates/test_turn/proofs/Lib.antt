pub mod AllSeats
