-- Laws of the sweep's end, and of a row of units that sweep.
pub mod Ending
pub mod Rows
