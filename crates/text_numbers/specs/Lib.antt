-- Numbers in a line of text.
pub mod Numbers
