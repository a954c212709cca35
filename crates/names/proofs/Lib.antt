-- The laws of the crate. What is shown stands in Laws; the other files are the way to it.
pub mod Laws
pub mod Contents
pub mod Numbers
-- For the proofs of the functions.
pub mod Judging
pub mod Finding
