-- Laws of the walk back to the root.
pub mod Walks
