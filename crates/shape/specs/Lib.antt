pub mod Shape
pub mod Recipients
pub mod Inner
