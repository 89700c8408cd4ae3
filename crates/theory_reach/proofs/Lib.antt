-- Reachability and counting: their laws, and ways to split a proof. Read in this order.
pub mod Splits
pub mod Reaching
pub mod Sums
pub mod Listed
