-- Laws of the walks along the free list.
pub mod Walks
