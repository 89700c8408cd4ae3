-- Laws of the audit's tests of a block: its words as they are read one by one, and its state with what is left to ask.
pub mod Asking
