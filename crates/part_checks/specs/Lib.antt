-- What the tests of a block's state leave to their callers.
pub mod Absent
