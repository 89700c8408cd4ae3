-- What a line of text gives.
pub mod Line
pub mod NoSecond
