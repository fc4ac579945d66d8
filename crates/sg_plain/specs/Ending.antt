-- A play that came to its end.
pub mod Left
