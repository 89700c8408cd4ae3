-- What is left of the proof that Save is its definition, and that it is settled.
pub mod Writing
pub mod NoSecond
