-- What waits to be written.
pub mod Output
