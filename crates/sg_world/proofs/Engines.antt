-- What a world's engine keeps, step by step.
pub mod Advancing
pub mod Left
pub mod Looking
pub mod Serving
