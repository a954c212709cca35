-- Laws for the proofs of the functions.
pub mod Spots
pub mod Tables
