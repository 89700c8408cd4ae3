-- What a path is read off.
pub mod Paths
