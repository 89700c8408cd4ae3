-- The laws of the sizes, and the functions' proofs.
pub mod Sizes
