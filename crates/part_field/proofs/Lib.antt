-- Laws of a walk.
pub mod Walking
