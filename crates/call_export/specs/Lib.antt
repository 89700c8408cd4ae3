-- The export of a list whose rows are blocks: what it gives, and that it is settled.
pub mod Export
pub mod NoSecond
