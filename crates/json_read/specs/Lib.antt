-- The code's answers for those of the reader's definition (crate grammar).
pub mod Members
pub mod Inner
