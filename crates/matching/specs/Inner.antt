-- What only contracts inside cite.
pub mod Places
pub mod Sides
