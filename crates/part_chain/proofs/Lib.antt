-- Laws of laying a chain.
pub mod Laying
