-- What is proved of the export's definition, and the functions' proofs.
pub mod Steps
pub mod Meaning
pub mod NoSecond
