-- What saving and loading a heap promise.
pub mod Images
