-- What the code that writes images says of bytes.
pub mod Placing
