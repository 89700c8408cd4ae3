-- Laws of the colours that are counted and walked along.
pub mod Hues
