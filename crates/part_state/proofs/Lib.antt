-- What is proved beside the functions' own proofs.
pub mod First
