-- Why in numbers, and that it is settled. Its definition is the machine's.
pub mod Numbers
pub mod NoSecond
