-- The export of a list whose rows are objects: what it gives, what that means, and that it is settled.
pub mod Objects
pub mod Lent
pub mod Meaning
pub mod NoSecond
