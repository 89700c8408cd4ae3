-- What the audit still asks of a block.
pub mod Asked
