-- What a line of text asks for, and how what it gives is said.
pub mod Command
pub mod Saying
