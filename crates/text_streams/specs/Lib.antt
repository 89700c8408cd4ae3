-- Lines of a stream of bytes.
pub mod Streams
pub mod Input
