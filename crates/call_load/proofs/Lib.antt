-- Laws of an image read into lent buffers.
pub mod Loading
