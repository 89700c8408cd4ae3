-- A search in buffers.
pub mod Lying
