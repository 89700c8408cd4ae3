-- How the loops of the phases fit.
pub mod Going
