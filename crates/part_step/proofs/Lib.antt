-- Laws of the steps, and of units in a row.
pub mod Picking
pub mod Going
