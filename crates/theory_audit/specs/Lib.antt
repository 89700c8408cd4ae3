-- What the audit's answer means: the statement.
pub mod Meaning
