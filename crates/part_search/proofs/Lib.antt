-- Laws of a search in buffers.
pub mod Steps
