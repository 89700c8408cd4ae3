-- The abstract collector: its heap, its moves, and what is promised of it. Read in this order.
pub mod Tints
pub mod Heaps
pub mod Moves
pub mod Kinds
pub mod Runs
pub mod Demand2
pub mod Demand3
pub mod Sharper
