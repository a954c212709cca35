-- The demands of the minutes, in one page.
pub mod Demands
-- A refusal of any function changes nothing.
pub mod Refusing
-- Document 01's samples.
pub mod Samples
-- Idle programs are shut out.
pub mod Idle
