-- What the service is asked for a client.
pub mod Serving
pub mod Telling
