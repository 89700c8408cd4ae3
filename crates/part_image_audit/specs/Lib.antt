-- What the code that audits an image asks of its bytes.
pub mod Laid
