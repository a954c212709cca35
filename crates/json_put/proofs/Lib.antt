-- Members: what they are made of and how long they are.
pub mod Members
pub mod Putting
pub mod Parts
