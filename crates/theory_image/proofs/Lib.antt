-- What saving and loading a heap promise, proved, and instances.
pub mod Images
pub mod Topped
pub mod Instances
