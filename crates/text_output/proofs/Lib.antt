-- What is proved of output alone.
pub mod Writing
