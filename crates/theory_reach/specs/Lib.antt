-- Reachability and counting: what is meant. Nothing here knows how a heap is laid out.
pub mod Reaching
pub mod Sums
pub mod Listed
