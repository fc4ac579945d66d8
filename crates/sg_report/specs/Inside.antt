-- What the contracts of private functions cite, and no clause of the program.
pub mod Pieces
