-- What is proved of commands alone.
pub mod Gathering
pub mod Meaning
pub mod Naming
