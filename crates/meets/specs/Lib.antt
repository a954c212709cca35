pub mod Members
pub mod Rules
pub mod Meets
pub mod Handed
