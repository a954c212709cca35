pub mod Laying
pub mod Keeping
pub mod Appending
