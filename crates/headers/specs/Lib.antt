pub mod Components
pub mod Headers
pub mod Answers
