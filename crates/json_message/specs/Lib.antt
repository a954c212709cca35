-- The JSON serialization as it is written, the writer's refusals, and what the reader hands out of it.
pub mod JsonText
pub mod WriteOrder
pub mod JsonWrite
pub mod Handed
pub mod Inner
