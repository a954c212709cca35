-- Laws for the proofs of the functions.
pub mod Walks
pub mod Windows
