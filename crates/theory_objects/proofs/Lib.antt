-- What a store of a field leaves as it was, and what follows for reads; how many fields an object has.
pub mod Writing
pub mod Objects
pub mod Lengths
