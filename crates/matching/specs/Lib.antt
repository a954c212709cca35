pub mod Matching
pub mod Inner
