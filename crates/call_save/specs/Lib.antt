-- That Save is settled. Its definition is the machine's.
pub mod NoSecond
