-- Entries as numbers of a table, and back.
pub mod Entries
-- Loops that ask something of one entry after the other.
pub mod Asking
-- Tables whose entries have the fingerprints of their names.
pub mod Printing
-- For `collect`: entries of rows.
pub mod Collecting
-- Entries laid out as the list.
pub mod Laying
-- The value of the first entry of a name.
pub mod Values
-- Comparing fingerprints first changes no answer.
pub mod Clashing
