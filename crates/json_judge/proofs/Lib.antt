pub mod Exits
pub mod Texts
pub mod Walk
pub mod Stages
pub mod Tables
pub mod Recipients
pub mod Orders
