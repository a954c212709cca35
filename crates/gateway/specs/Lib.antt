-- The numbers that each function can give.
pub mod Numbers
-- Document 01's samples.
pub mod Samples
