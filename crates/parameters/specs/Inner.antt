-- What only contracts inside cite.
pub mod Puts
pub mod Kept
