-- The words of a chain of blocks.
pub mod Chains
