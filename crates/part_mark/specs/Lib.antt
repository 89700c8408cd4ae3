-- What marking keeps of a block's references between its two passes over them.
pub mod Whites
