-- What no clause of the program cites: the parts of the definitions, by themselves, and how far a text is found to be flawless.
pub mod Parts
pub mod Stages
