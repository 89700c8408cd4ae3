-- Demand 3's premise, as numbers.
pub mod Sizing
