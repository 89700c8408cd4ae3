-- What is proved of the audit's answer.
pub mod Words
pub mod Naming
pub mod ByColour
pub mod Frees
pub mod ColourLayout
pub mod Formed
pub mod Audit
