-- What the audit counts and walks along.
pub mod Hues
