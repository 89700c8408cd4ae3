-- What is proved of exports, whatever their rows are, and the functions' proofs.
pub mod Steps
pub mod Walks
pub mod Meaning
pub mod Copying
pub mod Going
