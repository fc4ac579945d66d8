-- What no clause of the program cites: changes of a field, what is found of one kind of faults, and the parts of the definitions.
pub mod Changes
pub mod OneKind
pub mod Pieces
