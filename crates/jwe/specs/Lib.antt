pub mod Compact
pub mod General
pub mod Judge
pub mod Answers
pub mod Inner
