-- A law of Read.
pub mod Found
