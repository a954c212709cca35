pub mod Read
pub mod Component
