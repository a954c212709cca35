pub mod Names
pub mod Registered
