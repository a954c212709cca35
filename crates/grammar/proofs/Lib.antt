-- The laws of the grammar and its reader. What is shown stands in Theorems; the other files are the way to it.

pub mod Theorems
-- One reading: a parser that gives trees back reads the leaves of every tree as that tree.
pub mod Parse
pub mod Scan
pub mod Characters
pub mod Numbers
pub mod Complete
pub mod Values
pub mod Unambiguous
-- UTF-8 and what strings say.
pub mod Utf8Test
pub mod Points
pub mod Encoded
pub mod Undone
pub mod Spellings
-- The reader answers as the parser does.
pub mod Positions
pub mod ScanStrings
pub mod ReadLabels
pub mod ReadEntries
pub mod ReadValues
-- The reader decides the grammar.
pub mod Sound
pub mod SoundValues
pub mod FirstOctet
pub mod Shown
pub mod Stands
pub mod Decide
-- What the reader passes lies within the text.
pub mod Endings
-- For the proofs of functions.
pub mod Classes
pub mod Steps
pub mod Turns
pub mod Here
