pub mod Base64url
pub mod Fault
pub mod Answers
pub mod Inner
