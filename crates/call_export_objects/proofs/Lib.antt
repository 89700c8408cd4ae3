-- What is proved of the export's definition, and the functions' proofs.
pub mod Walks
pub mod Steps
pub mod Rows
pub mod Meaning
pub mod NoSecond
