-- Laws of the two passes over a block's references.
pub mod Whites
