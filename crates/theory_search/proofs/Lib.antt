-- What a search from the root finds, and by which path: the proofs. Read in this order.
pub mod Coding
pub mod Rising
pub mod Visiting
pub mod Finding
pub mod Paths
pub mod Means
