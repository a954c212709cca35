pub mod Readings
pub mod Judging
pub mod Putting
pub mod Answering
