-- How far a walk comes, and what it finds.
pub mod Walks
pub mod Finds
