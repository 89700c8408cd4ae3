-- What a program does with a line.
pub mod Doing
