-- What is proved of lines alone.
pub mod Lending
pub mod NoSecond
