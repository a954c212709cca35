-- The table of recipients as it is put together, and as it is read.
pub mod Table
pub mod Parsed
pub mod Inner
