-- What people who use objects longer than a block rely on.
pub mod Objects
pub mod Lengths
