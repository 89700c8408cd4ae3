-- How a row of units that sweep meets the sweep's end.
pub mod Ending
