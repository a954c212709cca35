-- Numbers in decimal digits: they read back, none begins with a zero, and how many there are.
pub mod Decimal
-- A text and the octet behind it.
pub mod Behind
-- A text written part by part.
pub mod Parts
-- The n-th of some words, as the code looks for it.
pub mod Picking
-- The lines of a list of parameters.
pub mod Listing
-- How long the lines are at most.
pub mod Sizes
-- The report by what the reader answers.
pub mod Reporting
