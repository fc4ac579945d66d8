-- Words for what calls do to objects.
pub mod Apart
pub mod Serving
pub mod Waiting
