-- What is proved of streams alone.
pub mod Cuts
