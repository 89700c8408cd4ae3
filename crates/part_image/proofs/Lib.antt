-- Laws of bytes written into others and of the loop that writes numbers, of the loop that reads them, and of an image's counts and registers.
pub mod Placing
pub mod Getting
pub mod Framing
