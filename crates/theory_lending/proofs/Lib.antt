-- The outer calls that change the registers, proved once for all of them.
pub mod Copied
pub mod Locals
pub mod Back
pub mod Meeting
pub mod Outer
