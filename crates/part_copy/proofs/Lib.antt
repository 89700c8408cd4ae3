-- Laws of the copying, and the functions' proofs.
pub mod Copies
