-- For callers: what a stage's answer tells, and what a table holds.
pub mod Stages
pub mod Collected
-- The members of a text, by its reading.
pub mod Outermost
-- For the proofs of the functions.
pub mod Faults
pub mod Bounds
pub mod Texts
pub mod Objects
