-- Two texts compared as values.
pub mod Texts
