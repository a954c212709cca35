-- Laws for the proofs of the functions.
pub mod Rows
pub mod Choices
pub mod Partners
pub mod SameOctets
