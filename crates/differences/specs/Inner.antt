-- What only contracts inside cite.
pub mod Holding
pub mod Handing
