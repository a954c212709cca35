pub mod Registered
pub mod HeaderRules
pub mod ContentAlgorithm
pub mod Inner
