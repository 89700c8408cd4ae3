-- What is proved of texts alone.
pub mod Digits
pub mod Pieces
