-- What the walks along the free list leave to each other.
pub mod Walk
