-- What the lexer's proofs and the parsers over tokens share, and no clause of theirs cites that the program's callers see.
pub mod Ahead
pub mod Automata
pub mod Fronts
pub mod Marks
pub mod Tests
