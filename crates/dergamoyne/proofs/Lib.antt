-- Laws for the proofs of Look and of Store number.
pub mod Looking
pub mod Keeping
