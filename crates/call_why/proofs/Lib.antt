-- What is left of the proof that Why is its definition, and that it is settled.
pub mod Ways
pub mod NoSecond
